-- A refusal by rules 5 to 8 stands; where they are silent the list is in order, rule 9 is left, and the rows.
use Rattle.std.proofs.Common.{[], ◌∷◌}
use Rattle.trials.proofs.Trying.{passed}
use Rattle.rules.specs.Offsets.{pace_of}
use Rattle.rules.specs.Rules.{form_rules, plan_rule}
use Rattle.rules.proofs.Leaving.{fair_lists}
use Rattle.planner.specs.Inside.{reports_in}
use Rattle.planner.proofs.Outcomes.{handed_up, goes_on}
use Rattle.planner.proofs.settle.settle.Goals as goal

pub returns-in_err-form_rules : goal.returns-in_err-form_rules
returns-in_err-form_rules c =
    let l = c.args.list in
    let ℓ = reports_in l in
    handed_up ℓ (pace_of l.terms) c.args.rows.now (form_rules ℓ) (plan_rule ℓ (pace_of l.terms) ∷ []) c.from_residual.result c.form_rules.ensures c.in_err-form_rules.was c.from_residual.ensures

pub invariant_of-plan_fair-clause-fair : goal.invariant_of-plan_fair-clause-fair
invariant_of-plan_fair-clause-fair c =
    let l = c.args.list in
    fair_lists l.arrivals.now l.deadlines.now l.operations.now c.args.rows.now c.requires.sized (passed c.form_rules.ensures c.in_ok-form_rules.was)

pub returns : goal.returns
returns c =
    let l = c.args.list in
    let ℓ = reports_in l in
    goes_on ℓ (pace_of l.terms) c.args.rows.now (form_rules ℓ) (plan_rule ℓ (pace_of l.terms) ∷ []) _ _ _ _ (passed c.form_rules.ensures c.in_ok-form_rules.was) c.plan_fair.ensures
