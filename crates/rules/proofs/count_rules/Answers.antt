-- One search for all the rules, in whatever order they stand: at each exit, the verdict so far first, and behind the last.
use Rattle.trials.proofs.Trying.{trying}
use Rattle.rules.proofs.count_rules.Goals as goal

pub returns-in_err-so_far : goal.returns-in_err-so_far
returns-in_err-so_far c = search trying depth 40 fits 8000

pub returns-in_err-refuse_if : goal.returns-in_err-refuse_if
returns-in_err-refuse_if c = search trying depth 40 fits 8000

pub returns-in_err-refuse_if-2 : goal.returns-in_err-refuse_if-2
returns-in_err-refuse_if-2 c = search trying depth 40 fits 8000

pub returns-in_err-refuse_if-3 : goal.returns-in_err-refuse_if-3
returns-in_err-refuse_if-3 c = search trying depth 40 fits 8000

pub returns-in_err-refuse_if-4 : goal.returns-in_err-refuse_if-4
returns-in_err-refuse_if-4 c = search trying depth 40 fits 8000

pub returns-in_err-refuse_if-5 : goal.returns-in_err-refuse_if-5
returns-in_err-refuse_if-5 c = search trying depth 40 fits 8000

pub returns : goal.returns
returns c = search trying depth 40 fits 8000
