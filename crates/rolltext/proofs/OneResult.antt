-- The promise of `roll_text` allows one result for each input, and there is one for each.
-- Assumes nothing.
use Prim.Native.Nat.{ℕ}
use mathlib.Core.Path.{◌≡◌, sym, subst}
use mathlib.Core.List.{List, ◌∷◌}
use Rattle.rules.specs.Offsets.{reports_of, fastest_of}
use Rattle.trials.proofs.Passing.{last_part}
use Rattle.trials.proofs.Single.{one_overall}
use Rattle.rules.specs.Rules.{plan_rules}
use Rattle.planner.proofs.OneResult.{one_outcome}
use Rattle.rules.proofs.Table.{works}
use Rattle.roll.specs.Format.{input_of, file_rules}
use Rattle.roll.proofs.OneResult.{single_roll, some_roll}
use Rattle.text.specs.Text.{TextIs}
use Rattle.text.proofs.PlanText.{one_text, some_text}
use Rattle.fraction.proofs.Scale.{cases}
use Rattle.rolltext.proofs.Saying.{too_long, short_enough}
use lib.ListN.{length}
use Rattle.rolltext.specs.Program.{long_rule, program_rules, ProgramOutcome, Says}

pub one_program :
    (s buffer : List ℕ) (number place blocks number' place' blocks' : ℕ) (after after' : List ℕ) →
    ProgramOutcome s buffer number place blocks after → ProgramOutcome s buffer number' place' blocks' after' →
    (number ≡ number') × (place ≡ place') × (blocks ≡ blocks') × (after ≡ after')
one_program s buffer =
    let x = input_of s buffer in
    one_outcome (program_rules s x) (reports_of x) (fastest_of x) buffer (one_overall (single_roll s x)) (λ p. works x (last_part (long_rule s ∷ file_rules s) (plan_rules x) p))

-- One length, one row buffer and one text.
pub one_said :
    (s buffer out : List ℕ) (r r' : ℕ) (after after' text text' : List ℕ) →
    Says s buffer out r after text → Says s buffer out r' after' text' → (r ≡ r') × (after ≡ after') × (text ≡ text')
one_said s buffer out r r' after after' text text' v w =
    let e = one_program s buffer v.number v.place v.blocks w.number w.place w.blocks after after' v.outcome w.outcome in
    let t : TextIs v.number v.place v.blocks after out r' text' =
    subst (λ (k : ℕ). TextIs k v.place v.blocks after out r' text') (sym e.0)
    (subst (λ (k : ℕ). TextIs w.number k v.blocks after out r' text') (sym e.1)
    (subst (λ (k : ℕ). TextIs w.number w.place k after out r' text') (sym e.2)
    (subst (λ (k : List ℕ). TextIs w.number w.place w.blocks k out r' text') (sym e.3) w.said))) in
    let q = one_text v.number v.place v.blocks after out r r' text text' v.said t in
    (q.0, e.3, q.1)

-- And there is a result for each input.
some_program : (s buffer : List ℕ) → (number : ℕ) × (place : ℕ) × (blocks : ℕ) × (after : List ℕ) × ProgramOutcome s buffer number place blocks after
some_program s buffer =
    cases 65536 (length s) (λ h. (14, 0, 0, buffer, too_long s buffer h))
    (λ h. let o = some_roll s buffer in (o.0, o.1, o.2, o.3, short_enough s buffer o.0 o.1 o.2 o.3 h o.4))

pub some_said : (s buffer out : List ℕ) → (r : ℕ) × (after : List ℕ) × (text : List ℕ) × Says s buffer out r after text
some_said s buffer out =
    let o = some_program s buffer in
    let t = some_text o.0 o.1 o.2 o.3 out in
    (t.0, o.3, t.1, record { number = o.0; place = o.1; blocks = o.2; outcome = o.4; said = t.2 })
