-- One search for all the rules, in whatever order they stand: at each exit, and behind the last.
use Rattle.trials.proofs.Trying.{trying}
use Rattle.planner.proofs.forms.form_rules.Goals as goal

pub returns-in_err-refuse_at : goal.returns-in_err-refuse_at
returns-in_err-refuse_at c = search trying depth 40 fits 8000

pub returns-in_err-refuse_at-2 : goal.returns-in_err-refuse_at-2
returns-in_err-refuse_at-2 c = search trying depth 40 fits 8000

pub returns-in_err-refuse_at-3 : goal.returns-in_err-refuse_at-3
returns-in_err-refuse_at-3 c = search trying depth 40 fits 8000

pub returns : goal.returns
returns c = search trying depth 40 fits 8000
