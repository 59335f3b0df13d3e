-- Fractions at a common scale. A fraction f is X at scale M when f = X / M; sums, maxima, differences, multiples and the order of fractions are
-- then those of their X's, so a proof about fractions is one about whole numbers. Any finite run of fractions has a common scale.
-- Assumes nothing.
use Prim.Native.Nat.{ℕ, zero, suc, ◌+◌, ◌*◌, ◌-◌, ◌/◌, ◌∣◌, ◌≤◌, ◌<◌, max, min, zero-le, suc-le-suc}
use mathlib.Core.Path.{◌≡◌, refl, ap}
use mathlib.Core.Logic.{⊎_elim}
use native.Mathlib.Omega.{arith}
use native.Mathlib.Decide.{dec_lt}
use native.Mathlib.Nat.{mul-pos, mul-sub, mul-le-mul_left, mul-lt-mul_of_pos_left, le_of_mul-le-mul_left, lt_of_mul-lt-mul_left, le_antisymm, eq-or-lt_of_le, le_of_suc-le-suc, not-suc-le-zero, div-mul_cancel, dvd-mul_left, dvd-mul_right_of_dvd, dvd-mul_left_of_dvd}
use Rattle.fraction.specs.Fraction.{Fraction, ◌≼◌, ◌≺◌, ◌≈◌, whole, plus, times, later, sooner, less, over, product}

-- two numbers, by which of them is less
pub cases {ℓ} : {A : Type ℓ} (a b : ℕ) → (a < b → A) → (b ≤ a → A) → A
cases a b lt ge = elim (dec_lt a b) [ yes h ↦ lt h | no h ↦ ge (omega arith) ]

-- the greater of two numbers, where it is known which
pub max_high : {a b : ℕ} → a ≤ b → max a b ≡ b
max_high h = omega arith

pub max_low : {a b : ℕ} → b ≤ a → max a b ≡ a
max_low h = omega arith

-- f is X at scale M
pub record At (M : ℕ) (f : Fraction) (X : ℕ) : Type 0 where
  pub at : f.num * M ≡ X * f.den

-- ---- the operations
pub at_whole : (M n : ℕ) → At M (whole n) (M * n)
unfolding whole
at_whole M n = omega arith

pub at_times : (n : ℕ) {M : ℕ} {f : Fraction} {X : ℕ} → At M f X → At M (times n f) (n * X)
unfolding times
at_times n e = omega (arith, ap (◌*◌ n) e.at)

pub at_plus : {M : ℕ} {f g : Fraction} {X Y : ℕ} → At M f X → At M g Y → At M (plus f g) (X + Y)
unfolding plus
at_plus {f = f} {g = g} e e' = omega (arith, ap (◌*◌ g.den) e.at, ap (◌*◌ f.den) e'.at)

-- a product: the scales are multiplied
pub at_product : {M N : ℕ} {f g : Fraction} {X Y : ℕ} → At M f X → At N g Y → At (M * N) (product f g) (X * Y)
unfolding product
at_product {M} {N} {f} {g} {X} {Y} e e' = omega (arith, ap (◌*◌ (g.num * N)) e.at, ap (◌*◌ (X * f.den)) e'.at)

-- at its own lower number, and at a multiple of a scale
pub at_den : (f : Fraction) → At f.den f f.num
at_den f = record { at = refl }

pub at_more : (k : ℕ) {M : ℕ} {f : Fraction} {X : ℕ} → At M f X → At (M * k) f (X * k)
at_more k e = omega (arith, ap (◌*◌ k) e.at)

-- n / d, with whole numbers in the right proportion
pub at_over : (M n d X : ℕ) → 0 < d → n * M ≡ X * d → At M (over n d) X
unfolding over
at_over M n d X h e = omega (arith, e, ap (◌*◌ X) (max_high h))

-- ---- the order
module _ {M : ℕ} {f g : Fraction} {X Y : ℕ} (p : At M f X) (q : At M g Y) where
  below : ℕ
  below = f.den * g.den

  left : f.num * g.den * M ≡ below * X
  unfolding below
  left = omega (arith, ap (◌*◌ g.den) p.at)

  right : g.num * f.den * M ≡ below * Y
  unfolding below
  right = omega (arith, ap (◌*◌ f.den) q.at)

  below_pos : 0 < below
  unfolding below
  below_pos = mul-pos f.proper g.proper

  pub le_at : f ≼ g → X ≤ Y
  le_at h = le_of_mul-le-mul_left {k = below} (omega (arith, left, right, mul-le-mul_left M h.cross)) below_pos

  pub at_lt : X < Y → f ≺ g
  at_lt h = record { cross = lt_of_mul-lt-mul_left M (omega (arith, left, right, mul-lt-mul_of_pos_left {k = below} h below_pos)) }

  module _ (pos : 0 < M) where
    pub at_le : X ≤ Y → f ≼ g
    at_le h = record { cross = le_of_mul-le-mul_left {k = M} (omega (arith, left, right, mul-le-mul_left below h)) pos }

    pub lt_at : f ≺ g → X < Y
    lt_at h = lt_of_mul-lt-mul_left below (omega (arith, left, right, mul-lt-mul_of_pos_left {k = M} h.cross pos))

module _ {M : ℕ} {f g : Fraction} {X Y : ℕ} (pos : 0 < M) (p : At M f X) (q : At M g Y) where
  pub eq_at : f ≈ g → X ≡ Y
  eq_at h = le_antisymm (le_at p q (omega arith)) (le_at q p (omega arith))

  pub at_eq : X ≡ Y → f ≈ g
  at_eq h = record { cross = le_antisymm (at_le p q pos (omega arith)).cross (at_le q p pos (omega arith)).cross }

  -- what stands over both lower numbers and is the one fraction, or the other, is so at the scale
  at_first : (n Z : ℕ) → n ≡ f.num * g.den → Z ≡ X → n * M ≡ Z * (f.den * g.den)
  at_first n Z e z = omega (arith, ap (◌*◌ g.den) p.at, ap (◌*◌ M) e, ap (◌*◌ (f.den * g.den)) z)

  at_second : (n Z : ℕ) → n ≡ g.num * f.den → Z ≡ Y → n * M ≡ Z * (f.den * g.den)
  at_second n Z e z = omega (arith, ap (◌*◌ f.den) q.at, ap (◌*◌ M) e, ap (◌*◌ (f.den * g.den)) z)

  pub at_later : At M (later f g) (max X Y)
  unfolding later
  at_later = record {
    at = cases X Y
        (λ h. at_second _ _ (omega (arith, (at_le p q pos (omega (arith, h))).cross)) (omega (arith, h)))
        (λ h. at_first _ _ (omega (arith, (at_le q p pos h).cross)) (omega (arith, h)));
  }

  pub at_sooner : At M (sooner f g) (min X Y)
  unfolding sooner
  at_sooner = record {
    at = cases X Y
        (λ h. at_first _ _ (omega (arith, (at_le p q pos (omega (arith, h))).cross)) (omega (arith, h)))
        (λ h. at_second _ _ (omega (arith, (at_le q p pos h).cross)) (omega (arith, h)));
  }

  pub at_less : At M (less f g) (X - Y)
  unfolding less
  at_less = omega (arith, ap (◌*◌ g.den) p.at, ap (◌*◌ f.den) q.at, mul-sub M (f.num * g.den) (g.num * f.den), mul-sub (f.den * g.den) X Y)

-- ---- a common scale
-- f has whole numbers at scale M
pub record Fits (M : ℕ) (f : Fraction) : Type 0 where
  pub divides : f.den ∣ M

-- what f is at scale M, where it fits
unfoldable pub scaled : ℕ → Fraction → ℕ
scaled M f = f.num * (M / f.den)

pub at_scaled : {M : ℕ} {f : Fraction} → Fits M f → At M f (scaled M f)
unfolding scaled
at_scaled {f = f} d = omega (arith, ap (◌*◌ f.num) (div-mul_cancel f.den d.divides))

pub fits_den : (f : Fraction) (k : ℕ) → Fits (k * f.den) f
fits_den f k = record { divides = dvd-mul_left f.den k }

pub fits_left : (k : ℕ) {M : ℕ} {f : Fraction} → Fits M f → Fits (M * k) f
fits_left k d = record { divides = dvd-mul_right_of_dvd _ d.divides k }

pub fits_right : (k : ℕ) {M : ℕ} {f : Fraction} → Fits M f → Fits (k * M) f
fits_right k d = record { divides = dvd-mul_left_of_dvd _ d.divides k }

-- the product of the lower numbers of the first n fractions
unfoldable pub scale : (ℕ → Fraction) → ℕ → ℕ
scale T zero = 1
scale T (suc n) = scale T n * (T n).den

pub scale_pos : (T : ℕ → Fraction) (n : ℕ) → 0 < scale T n
unfolding scale
scale_pos T zero = suc-le-suc zero-le
scale_pos T (suc n) = mul-pos (scale_pos T n) (T n).proper

pub scale_fits : (T : ℕ → Fraction) (n i : ℕ) → i < n → Fits (scale T n) (T i)
unfolding scale
scale_fits T zero i h = absurd (not-suc-le-zero h)
scale_fits T (suc n) i h =
    ⊎_elim (λ (e : i ≡ n). rw e (fits_den (T n) (scale T n))) (λ l. fits_left (T n).den (scale_fits T n i l)) (eq-or-lt_of_le (le_of_suc-le-suc h))
