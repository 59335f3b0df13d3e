-- The laws of the order of fractions, and of how sums, multiples and the later of two go with it. Each is a fact on whole numbers, read off at one
-- scale, the product of the lower numbers.
-- Assumes nothing.
use Prim.Native.Nat.{ℕ, ◌+◌, ◌*◌, ◌≤◌, ◌<◌, max}
use mathlib.Core.Path.{◌≡◌, sym, ap, subst}
use native.Mathlib.Omega.{arith}
use native.Mathlib.Nat.{mul-pos, mul-le-mul_left, mul-le-mul_right, le-max_left, le-max_right, le_of_lt}
use Rattle.fraction.specs.Fraction.{Fraction, ◌≼◌, ◌≺◌, ◌≈◌, whole, plus, times, later, sooner, less, over}
use Rattle.fraction.proofs.Scale.{cases, max_high, max_low, At, at_plus, at_times, at_le, at_lt, at_eq, le_at, lt_at, at_later, at_sooner, at_less}

-- ---- one and two fractions
pub ≼_refl : (f : Fraction) → f ≼ f
≼_refl f = omega arith

pub ≈_refl : (f : Fraction) → f ≈ f
≈_refl f = omega arith

pub ≈_sym : {f g : Fraction} → f ≈ g → g ≈ f
≈_sym h = omega arith

pub ≺_≼ : {f g : Fraction} → f ≺ g → f ≼ g
≺_≼ h = omega arith

pub ≈_≼ : {f g : Fraction} → f ≈ g → f ≼ g
≈_≼ h = omega arith

pub ≈_≽ : {f g : Fraction} → f ≈ g → g ≼ f
≈_≽ h = ≈_≼ (≈_sym h)

pub ≼_antisym : {f g : Fraction} → f ≼ g → g ≼ f → f ≈ g
≼_antisym h k = omega arith

-- what is both below and not below
pub ≺_≼_absurd : {f g : Fraction} → f ≺ g → g ≼ f → ⊥
≺_≼_absurd p q = omega arith

-- f below g, or g at most f
pub split {ℓ} : {A : Type ℓ} (f g : Fraction) → (f ≺ g → A) → (g ≼ f → A) → A
split f g lt ge = cases (f.num * g.den) (g.num * f.den) (λ h. lt (record { cross = h })) (λ h. ge (record { cross = h }))

-- ---- up to four fractions at one scale
-- M is the product of the lower numbers
record Together (f g h k : Fraction) : Type 0 where
  M : ℕ
  X : ℕ
  Y : ℕ
  Z : ℕ
  W : ℕ
  pos : 0 < M
  atf : At M f X
  atg : At M g Y
  ath : At M h Z
  atk : At M k W

together : (f g h k : Fraction) → Together f g h k
together f g h k = record {
  M = f.den * g.den * (h.den * k.den);
  X = f.num * g.den * (h.den * k.den);
  Y = g.num * f.den * (h.den * k.den);
  Z = h.num * f.den * (g.den * k.den);
  W = k.num * f.den * (g.den * h.den);
  pos = mul-pos (mul-pos f.proper g.proper) (mul-pos h.proper k.proper);
  atf = omega arith;
  atg = omega arith;
  ath = omega arith;
  atk = omega arith;
}

pub ≼_trans : {f g h : Fraction} → f ≼ g → g ≼ h → f ≼ h
≼_trans {f} {g} {h} p q =
    let t = together f g h h in
    at_le t.atf t.ath t.pos (omega (arith, le_at t.atf t.atg p, le_at t.atg t.ath q))

pub ≺_≼_trans : {f g h : Fraction} → f ≺ g → g ≼ h → f ≺ h
≺_≼_trans {f} {g} {h} p q =
    let t = together f g h h in
    at_lt t.atf t.ath (omega (arith, lt_at t.atf t.atg t.pos p, le_at t.atg t.ath q))

pub ≼_≺_trans : {f g h : Fraction} → f ≼ g → g ≺ h → f ≺ h
≼_≺_trans {f} {g} {h} p q =
    let t = together f g h h in
    at_lt t.atf t.ath (omega (arith, le_at t.atf t.atg p, lt_at t.atg t.ath t.pos q))

pub ≈_trans : {f g h : Fraction} → f ≈ g → g ≈ h → f ≈ h
≈_trans p q = ≼_antisym (≼_trans (≈_≼ p) (≈_≼ q)) (≼_trans (≈_≽ q) (≈_≽ p))

-- ---- whole numbers
pub whole_≼ : {m n : ℕ} → m ≤ n → whole m ≼ whole n
unfolding whole
whole_≼ h = omega arith

pub whole_≺ : {m n : ℕ} → m < n → whole m ≺ whole n
unfolding whole
whole_≺ h = omega arith

pub ≈_whole : (m n : ℕ) → whole m ≈ whole n → m ≡ n
unfolding whole
≈_whole m n h = omega arith

pub ≼_whole : (m n : ℕ) → whole m ≼ whole n → m ≤ n
unfolding whole
≼_whole m n h = omega arith

-- ---- sums, multiples, the later of two
pub plus_≼ : {f g h k : Fraction} → f ≼ g → h ≼ k → plus f h ≼ plus g k
plus_≼ {f} {g} {h} {k} p q =
    let t = together f g h k in
    at_le (at_plus t.atf t.ath) (at_plus t.atg t.atk) t.pos (omega (arith, le_at t.atf t.atg p, le_at t.ath t.atk q))

pub plus_≺ : {f g h k : Fraction} → f ≺ g → h ≼ k → plus f h ≺ plus g k
plus_≺ {f} {g} {h} {k} p q =
    let t = together f g h k in
    at_lt (at_plus t.atf t.ath) (at_plus t.atg t.atk) (omega (arith, lt_at t.atf t.atg t.pos p, le_at t.ath t.atk q))

pub later_≼ : {f g h k : Fraction} → f ≼ g → h ≼ k → later f h ≼ later g k
later_≼ {f} {g} {h} {k} p q =
    let t = together f g h k in
    at_le (at_later t.pos t.atf t.ath) (at_later t.pos t.atg t.atk) t.pos
    (omega (arith, le_at t.atf t.atg p, le_at t.ath t.atk q))

pub plus_≈ : {f f' g g' : Fraction} → f ≈ f' → g ≈ g' → plus f g ≈ plus f' g'
plus_≈ p q = ≼_antisym (plus_≼ (≈_≼ p) (≈_≼ q)) (plus_≼ (≈_≽ p) (≈_≽ q))

pub later_≈ : {f f' g g' : Fraction} → f ≈ f' → g ≈ g' → later f g ≈ later f' g'
later_≈ p q = ≼_antisym (later_≼ (≈_≼ p) (≈_≼ q)) (later_≼ (≈_≽ p) (≈_≽ q))

pub times_≼ : (n : ℕ) {f g : Fraction} → f ≼ g → times n f ≼ times n g
unfolding times
times_≼ n h = omega (arith, mul-le-mul_left n h.cross)

pub times_≈ : (n : ℕ) {f g : Fraction} → f ≈ g → times n f ≈ times n g
times_≈ n h = ≼_antisym (times_≼ n (≈_≼ h)) (times_≼ n (≈_≽ h))

-- the later of two, where one is known to be
pub later_right : {f g : Fraction} → f ≼ g → later f g ≈ g
unfolding later
later_right {g = g} h = omega (arith, ap (◌*◌ g.den) (max_high h.cross))

pub later_left : {f g : Fraction} → g ≼ f → later f g ≈ f
unfolding later
later_left {f = f} h = omega (arith, ap (◌*◌ f.den) (max_low h.cross))

-- the later of two is no sooner than either, and a sum no less than its first part
pub ≼_later_left : (f g : Fraction) → f ≼ later f g
unfolding later
≼_later_left f g = omega (arith, mul-le-mul_left f.den (le-max_left (f.num * g.den) (g.num * f.den)))

pub ≼_later_right : (f g : Fraction) → g ≼ later f g
unfolding later
≼_later_right f g = omega (arith, mul-le-mul_left g.den (le-max_right (f.num * g.den) (g.num * f.den)))

pub ≼_plus_left : (f g : Fraction) → f ≼ plus f g
unfolding plus
≼_plus_left f g = omega arith

-- two steps of a sum are one step
pub plus_times : (f g : Fraction) (m n : ℕ) → plus (plus f (times m g)) (times n g) ≈ plus f (times (m + n) g)
unfolding plus times
plus_times f g m n = omega arith

-- a larger number over the same one
pub over_≼ : {m n : ℕ} (d : ℕ) → m ≤ n → over m d ≼ over n d
unfolding over
over_≼ d h = record { cross = mul-le-mul_right (max 1 d) h }

-- a fraction above a positive one is positive
pub positive_up : {f g : Fraction} → f ≼ g → 0 < f.num → 0 < g.num
positive_up {f} {g} h p = cases g.num 1 (λ l. absurd (omega (arith, mul-pos p g.proper, ap (λ (x : ℕ). x * f.den) (nil l)))) (λ m. m)
  where
    nil : g.num < 1 → g.num ≡ 0
    nil l = omega arith

-- the later of two whole times
pub later_whole : (m n : ℕ) → later (whole m) (whole n) ≈ whole (max m n)
later_whole m n =
    cases m n (λ h. subst (λ (x : ℕ). later (whole m) (whole n) ≈ whole x) (sym (max_high (le_of_lt h))) (later_right (whole_≼ (le_of_lt h))))
    (λ h. subst (λ (x : ℕ). later (whole m) (whole n) ≈ whole x) (sym (max_low h)) (later_left (whole_≼ h)))

-- something positive more is more
pub ≺_plus : (f g : Fraction) → 0 < g.num → f ≺ plus f g
unfolding plus
≺_plus f g h = omega (arith, mul-pos h (mul-pos f.proper f.proper))

-- two quotients by cross products, as code compares them
pub over_≺ : (m d n e : ℕ) → 0 < d → 0 < e → m * e < n * d → over m d ≺ over n e
unfolding over
over_≺ m d n e p q h = omega (arith, h, ap (◌*◌ m) (max_high q), ap (◌*◌ n) (max_high p))

pub over_≽ : (m d n e : ℕ) → 0 < d → 0 < e → n * d ≤ m * e → over n e ≼ over m d
unfolding over
over_≽ m d n e p q h = omega (arith, h, ap (◌*◌ m) (max_high q), ap (◌*◌ n) (max_high p))

-- ---- the sooner of two
-- it is no later than either, and what is no later than both is no later than it
pub sooner_≼_left : (f g : Fraction) → sooner f g ≼ f
sooner_≼_left f g =
    let t = together f g f f in
    at_le (at_sooner t.pos t.atf t.atg) t.atf t.pos (omega arith)

pub sooner_≼_right : (f g : Fraction) → sooner f g ≼ g
sooner_≼_right f g =
    let t = together f g f f in
    at_le (at_sooner t.pos t.atf t.atg) t.atg t.pos (omega arith)

pub ≼_sooner : {f g h : Fraction} → h ≼ f → h ≼ g → h ≼ sooner f g
≼_sooner {f} {g} {h} p q =
    let t = together f g h h in
    at_le t.ath (at_sooner t.pos t.atf t.atg) t.pos (omega (arith, le_at t.ath t.atf p, le_at t.ath t.atg q))

-- the sooner of two positive fractions is positive
pub sooner_positive : (f g : Fraction) → 0 < f.num → 0 < g.num → 0 < (sooner f g).num
unfolding sooner
sooner_positive f g p q = omega (arith, mul-pos p g.proper, mul-pos q f.proper)

-- ---- differences
-- capped at r or above, p leaves as much of what is at most r
pub less_sooner : {f r : Fraction} (p : Fraction) → f ≼ r → less f (sooner p r) ≈ less f p
less_sooner {f} {r} p h =
    let t = together f r p p in
    at_eq t.pos (at_less t.pos t.atf (at_sooner t.pos t.ath t.atg)) (at_less t.pos t.atf t.ath)
    (omega (arith, le_at t.atf t.atg h))

-- from p up to f by way of r
pub less_by_way : {f r p : Fraction} → p ≼ r → r ≼ f → less f p ≈ plus (less r p) (less f r)
less_by_way {f} {r} {p} h k =
    let t = together f r p p in
    at_eq t.pos (at_less t.pos t.atf t.ath) (at_plus (at_less t.pos t.atg t.ath) (at_less t.pos t.atf t.atg))
    (omega (arith, le_at t.ath t.atg h, le_at t.atg t.atf k))

-- ---- two sums side by side
-- one term more on each is one term more on their sum
pub plus_side : (n : ℕ) (f g h k : Fraction) → plus (plus f g) (times n (plus h k)) ≈ plus (plus f (times n h)) (plus g (times n k))
plus_side n f g h k =
    let t = together f g h k in
    at_eq t.pos (at_plus (at_plus t.atf t.atg) (at_times n (at_plus t.ath t.atk)))
    (at_plus (at_plus t.atf (at_times n t.ath)) (at_plus t.atg (at_times n t.atk))) (omega arith)
