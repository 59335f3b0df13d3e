-- One search for all its rules, in whatever order they stand: at each exit, and behind the last.
-- Assumes nothing.
use Rattle.trials.proofs.Trying.{trying}
use Rattle.writer.proofs.write_rules.Goals as goal

pub returns-in_err-refuse_if : goal.returns-in_err-refuse_if
returns-in_err-refuse_if c = search trying depth 40 fits 8000

pub returns-in_err-refuse_if-2 : goal.returns-in_err-refuse_if-2
returns-in_err-refuse_if-2 c = search trying depth 40 fits 8000

pub returns-in_err-refuse_if-3 : goal.returns-in_err-refuse_if-3
returns-in_err-refuse_if-3 c = search trying depth 40 fits 8000

pub returns : goal.returns
returns c = search trying depth 40 fits 8000
