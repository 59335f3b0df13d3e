-- Runs of reports and straight lines: the operations of a run, and the time s + t · S that a run of S operations from s reaches at pace t.
-- Assumes nothing.
use Prim.Native.Nat.{ℕ, zero, suc, ◌+◌, ◌*◌, ◌-◌, ◌≤◌, ◌<◌, max}
use mathlib.Core.Path.{◌≡◌, refl, ap}
use mathlib.Core.Logic.{⊎_elim}
use native.Mathlib.Omega.{arith}
use native.Mathlib.Nat.{mul-sub, mul-le-mul_left, eq-or-lt_of_le, le_of_suc-le-suc, le_refl}
use Rattle.fraction.specs.Fraction.{Fraction, ◌≼◌, ◌≺◌, ◌≈◌, whole, plus, times, over}
use Rattle.fraction.proofs.Scale.{cases, at_whole, at_times, at_plus, at_over, at_eq}
use Rattle.fraction.proofs.Order.{≼_refl, whole_≼, plus_≼, plus_times, times_≼}
use Rattle.critical.specs.Rows.{sum}

-- ---- the operations of a run
-- the operations of reports p to j
abbrev pub span : (ℕ → ℕ) → ℕ → ℕ → ℕ
span w p j = sum w (suc j) - sum w p

pub sum_mono : (w : ℕ → ℕ) (i j : ℕ) → i ≤ j → sum w i ≤ sum w j
unfolding sum
sum_mono w i zero h = ap_le (omega arith)
  where
    ap_le : i ≡ zero → sum w i ≤ sum w zero
    ap_le e = rw e (le_refl (sum w zero))
sum_mono w i (suc j) h =
    ⊎_elim (λ (e : i ≡ suc j). rw e (le_refl (sum w (suc j)))) (λ l. omega (arith, sum_mono w i j (le_of_suc-le-suc l))) (eq-or-lt_of_le h)

-- terms of at most B give a sum of at most B times their number
pub sum_bound : (w : ℕ → ℕ) (B n : ℕ) → ((i : ℕ) → i < n → w i ≤ B) → sum w n ≤ B * n
unfolding sum
sum_bound w B zero h = omega arith
sum_bound w B (suc n) h = omega (arith, sum_bound w B n (λ i k. h i (omega arith)), h n (le_refl (suc n)))

module _ (w : ℕ → ℕ) (p : ℕ) where
  pub span_one : span w p p ≡ w p
  unfolding sum
  span_one = omega arith

  pub span_more : (j : ℕ) → p ≤ j → span w p (suc j) ≡ span w p j + w (suc j)
  unfolding sum
  span_more j h = omega (arith, sum_mono w p (suc j) (omega arith))

  pub span_join : (q j : ℕ) → p ≤ q → q < j → span w p j ≡ span w p q + span w (suc q) j
  span_join q j h k = omega (arith, sum_mono w p (suc q) (omega arith), sum_mono w (suc q) (suc j) (omega arith))

  pub span_pos : (j : ℕ) → 0 < w p → p ≤ j → 0 < span w p j
  unfolding sum
  span_pos j h k = omega (arith, sum_mono w (suc p) (suc j) (omega arith))

-- ---- lines
-- where S operations from s come to at pace t
unfoldable pub line : ℕ → Fraction → ℕ → Fraction
line s t S = plus (whole s) (times S t)

-- a slower pace comes later
pub line_≼ : (s : ℕ) {t u : Fraction} (S : ℕ) → t ≼ u → line s t S ≼ line s u S
unfolding line
line_≼ s S h = plus_≼ (≼_refl (whole s)) (times_≼ S h)

-- an earlier start too
pub line_from_≼ : (s r : ℕ) (t : Fraction) (S : ℕ) → s ≤ r → line s t S ≼ line r t S
unfolding line
line_from_≼ s r t S h = plus_≼ (whole_≼ h) (≼_refl (times S t))

-- more operations on the line
pub line_more : (s : ℕ) (t : Fraction) (S n : ℕ) → plus (line s t S) (times n t) ≈ line s t (S + n)
unfolding line
line_more s t S n = plus_times (whole s) t S n

-- the line of slope (e − s) / S comes to e
pub line_end : (s e S : ℕ) → s ≤ e → 0 < S → line s (over (e - s) S) S ≈ whole e
unfolding line
line_end s e S h p =
    at_eq p (at_plus (at_whole S s) (at_times S (at_over S (e - s) S (e - s) p refl))) (at_whole S e) (omega (arith, mul-sub S e s, mul-le-mul_left S h))

-- a line against a whole time x: the slope from (0, s) to (S, x) against the line's own
module _ (s x S : ℕ) (t : Fraction) (p : 0 < S) where
  is_max : max 1 S ≡ S
  is_max = omega arith

  is_times : t.num * max 1 S ≡ t.num * S
  is_times = ap (◌*◌ t.num) is_max

  distance : t.den * (x - s) ≡ t.den * x - t.den * s
  distance = mul-sub t.den x s

  pub slope_≼ : over (x - s) S ≼ t → whole x ≼ line s t S
  unfolding line over whole plus times
  slope_≼ h = omega (arith, is_times, distance)

  pub slope_≻ : t ≺ over (x - s) S → line s t S ≺ whole x
  unfolding line over whole plus times
  slope_≻ h = omega (arith, is_times, distance)

  pub slope_≽ : s ≤ x → t ≼ over (x - s) S → line s t S ≼ whole x
  unfolding line over whole plus times
  slope_≽ l h = omega (arith, is_times, distance, mul-le-mul_left t.den l)

  pub slope_≺ : over (x - s) S ≺ t → whole x ≺ line s t S
  unfolding line over whole plus times
  slope_≺ h = omega (arith, is_times, distance)

  pub ≽_slope : line s t S ≼ whole x → t ≼ over (x - s) S
  unfolding line over whole plus times
  ≽_slope h = omega (arith, is_times, distance)

-- a time that a line reaches is not before its start
pub line_start : (s x S : ℕ) (t : Fraction) → line s t S ≼ whole x → s ≤ x
unfolding line whole plus times
line_start s x S t h = cases x s (λ l. absurd (omega (arith, t.proper, mul-le-mul_left {m = suc x} {n = s} t.den l))) (λ g. g)
