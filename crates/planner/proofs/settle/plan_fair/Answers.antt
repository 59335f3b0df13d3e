-- The pass ends on the list, and rule 9 is given; or behind it, and the rows are written.
use Rattle.std.proofs.Common.{[], ◌∷◌}
use Rattle.trials.proofs.Trying.{passed}
use Rattle.rules.specs.Offsets.{pace_of}
use Rattle.rules.specs.Rules.{plan_rule}
use Rattle.planner.specs.Inside.{reports_in}
use Rattle.planner.proofs.Outcomes.{handed_up, nine, plans_all}
use Rattle.planner.proofs.settle.plan_fair.Goals as goal

pub returns-in_err-refuse_at : goal.returns-in_err-refuse_at
returns-in_err-refuse_at c =
    let fair = c.args.fair in
    let ℓ = reports_in fair.list in
    handed_up ℓ (pace_of fair.list.terms) c.args.rows.now (plan_rule ℓ (pace_of fair.list.terms) ∷ []) [] c.from_residual.result (nine c.first_without.ensures c.refuse_at.ensures) c.in_err-refuse_at.was c.from_residual.ensures

pub returns : goal.returns
returns c =
    let fair = c.args.fair in
    plans_all (reports_in fair.list) fair.list.terms fair.paced c.args.rows.now _ _ (passed (nine c.first_without.ensures c.refuse_at.ensures) c.in_ok-refuse_at.was) c.blocks-2.ensures
