-- Rule 14 is given where the input is too long; where it is not, the roll's outcome is the input's.
-- Assumes nothing.
use Rattle.std.proofs.Common.{[], ◌∷◌}
use Rattle.trials.proofs.Trying.{passed}
use Rattle.rules.specs.Offsets.{reports_of, fastest_of}
use Rattle.planner.proofs.Outcomes.{handed_up, goes_on}
use Rattle.roll.specs.Format.{input_of, roll_rules}
use Rattle.rolltext.specs.Program.{long_rule}
use Rattle.rolltext.proofs.Saying.{tried}
use Rattle.rolltext.proofs.answer_input.Goals as goal

pub returns-in_err-refuse_if : goal.returns-in_err-refuse_if
returns-in_err-refuse_if c =
    let s = c.args.input.now in
    let x = input_of s c.args.rows.now in
    handed_up (reports_of x) (fastest_of x) x.buffer (long_rule s ∷ []) (roll_rules s x) c.from_residual.result (tried s c.refuse_if.ensures) c.in_err-refuse_if.was c.from_residual.ensures

pub returns : goal.returns
returns c =
    let s = c.args.input.now in
    let x = input_of s c.args.rows.now in
    goes_on (reports_of x) (fastest_of x) x.buffer (long_rule s ∷ []) (roll_rules s x) _ _ _ _ (passed (tried s c.refuse_if.ensures) c.in_ok-refuse_if.was) c.plan_roll.ensures
