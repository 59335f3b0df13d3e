-- The promises of the library's functions allow one reply and one buffer for each input. For `vakrhildo_read` that is roll's `one_numbers`.
-- Assumes nothing.
use Prim.Native.Nat.{ℕ}
use mathlib.Core.Path.{◌≡◌}
use mathlib.Core.List.{List}
use Rattle.answers.specs.declared.Reply.{Reply}
use Rattle.answers.proofs.Replies.{same_reply}
use Rattle.rules.specs.Offsets.{Input}
use Rattle.planner.specs.Outcome.{PlanOutcome}
use Rattle.planner.proofs.OneResult.{one_result}
use Rattle.roll.specs.Format.{RollOutcome}
use Rattle.roll.proofs.OneResult.{one_roll}

-- `vakrhildo_plan`
pub one_plan_reply :
    (x : Input) (r t : Reply) (after after' : List ℕ) →
    PlanOutcome x r.number r.place r.blocks after → PlanOutcome x t.number t.place t.blocks after' → (r ≡ t) × (after ≡ after')
one_plan_reply x r t after after' v w =
    let e = one_result x r.number r.place r.blocks t.number t.place t.blocks after after' v w in
    (same_reply r t e.0 e.1 e.2, e.3)

-- `vakrhildo_plan_roll`
pub one_roll_reply :
    (s buffer : List ℕ) (r t : Reply) (after after' : List ℕ) →
    RollOutcome s buffer r.number r.place r.blocks after → RollOutcome s buffer t.number t.place t.blocks after' → (r ≡ t) × (after ≡ after')
one_roll_reply s buffer r t after after' v w =
    let e = one_roll s buffer r.number r.place r.blocks t.number t.place t.blocks after after' v w in
    (same_reply r t e.0 e.1 e.2, e.3)
