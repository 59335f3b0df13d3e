-- The promise of `plan` allows one answer and one buffer for each input, and there is one for each.
-- Assumes nothing.
use Rattle.std.proofs.Common.{◌≡◌, ℕ, zero, suc, ◌+◌, ◌*◌, ◌/◌, ◌%◌, ◌<◌, List, length, get_or, sym, refl, ap, ◌∙◌, subst, arith, ext_get_or}
use Rattle.answers.specs.Numbers.{Answer, width, number_of, place_of, blocks_of}
use Rattle.answers.proofs.Replies.{always_proper, same_answer}
use Rattle.trials.specs.Rules.{Rule}
use Rattle.trials.proofs.Passing.{Passed}
use Rattle.trials.proofs.Single.{Soles, one_refusal, not_refused}
use Rattle.fraction.specs.Fraction.{Fraction}
use Rattle.fraction.proofs.Scale.{cases}
use Rattle.critical.specs.Reports.{Reports, Working}
use Rattle.critical.specs.Rows.{Row}
use Rattle.critical.proofs.Theorems.{one_list_of_rows}
use Rattle.rules.specs.Offsets.{Input, reports_of, fastest_of}
use Rattle.rules.specs.Rules.{plan_rules}
use Rattle.rules.proofs.Table.{single_rules, works}
use Rattle.planner.specs.Outcome.{number_at, row_at, Written, Outcome, PlanOutcome}
use Rattle.rules.proofs.Leaving.{working}

-- equal rows have equal numbers in the buffers
row_numbers : (a b : List ℕ) (k : ℕ) → row_at a k ≡ row_at b k → (j : ℕ) → j < width → number_at a k j ≡ number_at b k j
row_numbers a b k e zero h = ap (λ (r : Row). r.first) e
row_numbers a b k e (suc zero) h = ap (λ (r : Row). r.last) e
row_numbers a b k e (suc (suc zero)) h = ap (λ (r : Row). r.start) e
row_numbers a b k e (suc (suc (suc zero))) h = ap (λ (r : Row). r.end) e
row_numbers a b k e (suc (suc (suc (suc zero)))) h = ap (λ (r : Row). r.operations) e
row_numbers a b k e (suc (suc (suc (suc (suc j))))) h = absurd (omega arith)

-- what is written is one thing
pub one_buffer : (ℓ : Reports) (f : Fraction) → Working ℓ → (before : List ℕ) (m n : ℕ) (a b : List ℕ) → Written ℓ f before m a → Written ℓ f before n b → (m ≡ n) × (a ≡ b)
one_buffer ℓ f working before m n a b v w = (e, ext_get_or 0 a b (v.as_long ∙ sym w.as_long) number)
  where
    same : (m ≡ n) × ((k : ℕ) → k < m → row_at a k ≡ row_at b k)
    same = one_list_of_rows ℓ f f m n (row_at a) (row_at b) working v.rows w.rows

    e : m ≡ n
    e = same.0

    inside : (i : ℕ) → i < width * m → get_or a i 0 ≡ get_or b i 0
    inside i h =
        let k : ℕ = i / width in
        let j : ℕ = i % width in
        let p : width * k + j ≡ i = omega arith in
        subst (λ (z : ℕ). get_or a z 0 ≡ get_or b z 0) p (row_numbers a b k (same.1 k (omega arith)) j (omega arith))

    number : (i : ℕ) → i < length a → get_or a i 0 ≡ get_or b i 0
    number i h = cases i (width * m) (λ l. inside i l) (λ l. v.behind i l ∙ sym (w.behind i (omega (arith, e, l))))

-- by any rules that are given with one place each, and that leave no report without work
pub one_outcome :
    (rules : List Rule) (ℓ : Reports) (f : Fraction) (before : List ℕ) → Soles rules → (Passed rules → Working ℓ) →
    (number place blocks number' place' blocks' : ℕ) (after after' : List ℕ) →
    Outcome rules ℓ f before number place blocks after → Outcome rules ℓ f before number' place' blocks' after' →
    (number ≡ number') × (place ≡ place') × (blocks ≡ blocks') × (after ≡ after')
unfolding Outcome
one_outcome rules ℓ f before single works zero p b zero p' b' a a' v w =
    let s = one_buffer ℓ f (works (record { accepted = v.0 })) before b b' a a' v.2 w.2 in
    (refl, v.1 ∙ sym w.1, s.0, s.1)
one_outcome rules ℓ f before single works zero p b (suc n') p' b' a a' v w = absurd (not_refused rules v.0 (suc n') p' w.0)
one_outcome rules ℓ f before single works (suc n) p b zero p' b' a a' v w = absurd (not_refused rules w.0 (suc n) p v.0)
one_outcome rules ℓ f before single works (suc n) p b (suc n') p' b' a a' v w =
    let s = one_refusal rules single.single (suc n) p (suc n') p' v.0 w.0 in
    (s.0, s.1, v.1 ∙ sym w.1, v.2 ∙ sym w.2)

-- The promise allows one number, place, block count and buffer for each input.
pub one_result :
    (x : Input) (number place blocks number' place' blocks' : ℕ) (after after' : List ℕ) →
    PlanOutcome x number place blocks after → PlanOutcome x number' place' blocks' after' →
    (number ≡ number') × (place ≡ place') × (blocks ≡ blocks') × (after ≡ after')
one_result x = one_outcome (plan_rules x) (reports_of x) (fastest_of x) x.buffer (single_rules x) (works x)

-- And one answer, whatever its numbers are called: the Result itself.
pub one_answer :
    (x : Input) (a b : Answer) (after after' : List ℕ) →
    PlanOutcome x (number_of a) (place_of a) (blocks_of a) after → PlanOutcome x (number_of b) (place_of b) (blocks_of b) after' → (a ≡ b) × (after ≡ after')
one_answer x a b after after' v w =
    let e = one_result x (number_of a) (place_of a) (blocks_of a) (number_of b) (place_of b) (blocks_of b) after after' v w in
    (same_answer a b (always_proper a) (always_proper b) e.0 e.1 e.2, e.3)
