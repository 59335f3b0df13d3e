-- The roll is refused, or its list is planned.
use Rattle.std.proofs.Common.{subst, refl, List, ℕ, Bor, Err}
use Rattle.std.proofs.lemmas.Result.{MatchResult-at_err}
use Rattle.answers.specs.Numbers.{number_of, place_of, blocks_of}
use Rattle.roll.specs.Format.{RollOutcome}
use Rattle.roll.proofs.Rolls.{refused_roll}
use Rattle.roll.proofs.plan_roll.Goals as goal

pub returns-in_default : goal.returns-in_default
returns-in_default c =
    let a = c.unwrap_err.result in
    refused_roll c.args.file.now c.args.rows.now (Err a) (MatchResult-at_err _ _ a c.unwrap_err.ensures c.open-opened.ensures) (refl, refl)

pub returns : goal.returns
returns c =
    let a = c.plan.result in
    subst (λ (file : Bor (List ℕ)). RollOutcome file.now c.args.rows.now (number_of a) (place_of a) (blocks_of a) c.plan.new.rows) c.in-Ok.ensures c.plan.ensures
