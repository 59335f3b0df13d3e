-- From fractions to whole numbers: at a scale M that fits the paces, starts, finishes and sums are whole, and the definitions of specs/ become
-- the properties of Numbers.antt.
-- Assumes nothing.
use Prim.Native.Nat.{ℕ, zero, suc, ◌*◌, ◌-◌, ◌≤◌, ◌<◌}
use mathlib.Core.Path.{◌≡◌}
use mathlib.Core.Bool.{cond}
use native.Mathlib.Omega.{arith}
use native.Mathlib.Nat.{lt_of_mul-lt-mul_left, le_of_mul-le-mul_left, mul-zero}
use lib.Dec.{ltb}
use borrow.Author.Tests.{lt-ltb, le-ltb}
use Rattle.fraction.specs.Fraction.{Fraction, ◌≈◌, whole}
use Rattle.fraction.proofs.Scale.{cases, At, at_whole, at_times, at_plus, at_less, at_later, at_le, at_lt, le_at, eq_at}
use Rattle.critical.specs.Reports.{Reports, Paces, start, finish, Keeps}
use Rattle.critical.specs.Rows.{sum, Busy, CriticalPlan}
use Rattle.critical.specs.Cost.{total}
use Rattle.critical.proofs.Slack.{stray}
use Rattle.critical.proofs.Numbers.{starts, ends, Joints, InTime}

-- the first n amounts are whole at scale M
abbrev pub AtAll : ℕ → Paces → ℕ → (ℕ → ℕ) → Type 0
AtAll M T n t = (i : ℕ) → i < n → At M (T i) (t i)

-- the offsets at scale M
abbrev pub arrivals : Reports → ℕ → ℕ → ℕ
arrivals ℓ M i = M * ℓ.arrival i

abbrev pub deadlines : Reports → ℕ → ℕ → ℕ
deadlines ℓ M i = M * ℓ.deadline i

module _ (ℓ : Reports) {M : ℕ} (pos : 0 < M) {T : Paces} {t : ℕ → ℕ} {n : ℕ} (at : AtAll M T n t) where
  pub at_start : (i : ℕ) → i < n → At M (start ℓ T i) (starts (arrivals ℓ M) ℓ.operations t i)
  unfolding start starts
  at_start zero h = at_whole M (ℓ.arrival zero)
  at_start (suc i) h =
      at_later pos (at_whole M (ℓ.arrival (suc i))) (at_plus (at_start i (omega arith)) (at_times (ℓ.operations i) (at i (omega arith))))

  pub at_finish : (i : ℕ) → i < n → At M (finish ℓ T i) (ends (arrivals ℓ M) ℓ.operations t i)
  at_finish i h = at_plus (at_start i h) (at_times (ℓ.operations i) (at i h))

  -- a sum of operations times amounts
  pub at_total : (m : ℕ) → m ≤ n → At M (total ℓ T m) (sum (λ i. ℓ.operations i * t i) m)
  unfolding total sum
  at_total zero h = rw mul-zero at (at_whole M zero)
  at_total (suc m) h = at_plus (at_total m (omega arith)) (at_times (ℓ.operations m) (at m h))

-- ---- the properties
module _ (ℓ : Reports) {M : ℕ} (pos : 0 < M) {T : Paces} {t : ℕ → ℕ} (at : AtAll M T ℓ.count t) where
  abbrev end : ℕ → ℕ
  end i = ends (arrivals ℓ M) ℓ.operations t i

  -- the finish at, at most or at least a whole time x: in fractions and in whole numbers
  at_time : (i x : ℕ) → i < ℓ.count → finish ℓ T i ≈ whole x → end i ≡ M * x
  at_time i x h = eq_at pos (at_finish ℓ pos at i h) (at_whole M x)

  busy_at : (i : ℕ) → i < ℓ.count → arrivals ℓ M (suc i) ≤ end i → Busy ℓ T i
  busy_at i h = at_le (at_whole M (ℓ.arrival (suc i))) (at_finish ℓ pos at i h) pos

  pub joints : (fastest : Fraction) → CriticalPlan ℓ fastest T → Joints ℓ.count (arrivals ℓ M) (deadlines ℓ M) ℓ.operations t
  joints fastest c = record {
    idle = λ i h g. at_time i (ℓ.deadline i) (omega arith) (c.one_idle i h (lt_of_mul-lt-mul_left M g));
    busy = λ i h g. le_at (at_whole M (ℓ.arrival (suc i))) (at_finish ℓ pos at i (omega arith)) (c.one_busy i h (le_of_mul-le-mul_left g pos));
    rise = λ i h b r. at_time i (ℓ.deadline i) (omega arith) (c.two i h (busy_at i (omega arith) b) (at_lt (at i (omega arith)) (at (suc i) h) r));
    fall = λ i h b r. at_time i (ℓ.arrival (suc i)) (omega arith) (c.three i h (busy_at i (omega arith) b) (at_lt (at (suc i) h) (at i (omega arith)) r));
    last = λ i e. at_time i (ℓ.deadline i) (omega arith) (c.four i e);
  }

  pub in_time : Keeps ℓ T → InTime ℓ.count (arrivals ℓ M) (deadlines ℓ M) ℓ.operations t
  in_time k i h = le_at (at_finish ℓ pos at i h) (at_whole M (ℓ.deadline i)) (k.in_time i h)

-- what a rival's pace strays, at a scale
pub at_stray : {M : ℕ} {c p q : Fraction} {C P Q : ℕ} → 0 < M → At M c C → At M p P → At M q Q → At M (stray c p q) (cond (ltb P C) (Q - C) (C - Q))
at_stray {c = c} {p = p} {C = C} {P = P} pos ec ep eq =
    cases P C
    (λ h. rw (lt-ltb P C h, lt-ltb (p.num * c.den) (c.num * p.den) (at_lt ep ec h).cross) (at_less pos eq ec))
    (λ h. rw (le-ltb P C h, le-ltb (p.num * c.den) (c.num * p.den) (at_le ec ep pos h).cross) (at_less pos ec eq))
