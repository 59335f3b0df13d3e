-- The digits that `io::decimal` gives are the number in decimal.
-- Assumes nothing.
use Prim.Native.Nat.{ℕ, zero, suc, ◌*◌, ◌-◌, ◌/◌, ◌^◌, ◌≤◌, ◌<◌}
use mathlib.Core.Path.{◌≡◌, ◌∙◌, ap, subst}
use mathlib.Core.Bool.{Bool, true, false, not, cond}
use mathlib.Core.List.{List}
use native.Mathlib.Omega.{arith}
use native.Mathlib.Nat.{pow-suc, pow-le-pow_right, le_of_suc-le-suc, lt_of_not-le}
use lib.Dec.{T, ltb, leb→le, nleb→lt}
use Rattle.io.specs.Digits.{last_digits, IsDigitCount}
use Rattle.text.specs.Text.{places_up_to, decimal}

-- ---- the places are the fewest that hold the number
-- What holds of either choice holds of the one that is made.
pub chosen : (P : ℕ → Type 0) (b : Bool) (m n : ℕ) → (T b → P m) → (T (not b) → P n) → P (cond b m n)
chosen P true m n f g = f tt
chosen P false m n f g = g tt

one_digit : (n : ℕ) → n < 10 → IsDigitCount 10 1 n 1
one_digit n h = (omega arith, h, λ l. absurd (omega arith))

one_more : (n k : ℕ) → 10 ≤ n → IsDigitCount 10 1 (n / 10) k → IsDigitCount 10 1 n (suc k)
one_more n k h f =
    let p : 10 ^ suc k ≡ 10 ^ k * 10 = pow-suc 10 k in
    let above : n < 10 ^ suc k = omega (arith, p, f.1) in
    let e : k ≡ suc k - 1 = omega arith in
    (omega arith, above, λ _. subst (λ (j : ℕ). 10 ^ j ≤ n) e (below k f))
  where
    below : (k : ℕ) → IsDigitCount 10 1 (n / 10) k → 10 ^ k ≤ n
    below zero f = absurd (omega (arith, f.0))
    below (suc zero) f = h
    below (suc (suc k)) f =
        let p : 10 ^ suc (suc k) ≡ 10 ^ suc k * 10 = pow-suc 10 (suc k) in
        let e : suc (suc k) - 1 ≡ suc k = omega arith in
        let q : 10 ^ suc k ≤ n / 10 = subst (λ (j : ℕ). 10 ^ j ≤ n / 10) e (f.2 (omega arith)) in
        omega (arith, p, q)

-- The places of a number are the fewest that hold it.
pub fewest_places : (most n : ℕ) → n ≤ most → IsDigitCount 10 1 n (places_up_to most n)
unfolding places_up_to
fewest_places zero n h = one_digit n (omega arith)
fewest_places (suc most) n h =
    chosen (IsDigitCount 10 1 n) (ltb n 10) 1 (suc (places_up_to most (n / 10)))
    (λ t. one_digit n (leb→le (suc n) 10 t))
    (λ t. let g : 10 < suc n = nleb→lt (suc n) 10 t in one_more n (places_up_to most (n / 10)) (omega (arith, g)) (fewest_places most (n / 10) (omega (arith, g))))

-- ---- and there is one such number of places
grows : (i j : ℕ) → i ≤ j → 10 ^ i ≤ 10 ^ j
grows i j h = let ten : 0 < 10 = omega arith in pow-le-pow_right ten h

not_more : (n j k : ℕ) → IsDigitCount 10 1 n j → IsDigitCount 10 1 n k → k < j → ⊥
not_more n j k f g h =
    let p : 10 ^ (j - 1) ≤ n = f.2 (omega (arith, g.0)) in
    let q : 10 ^ k ≤ 10 ^ (j - 1) = grows k (j - 1) (omega arith) in
    omega (arith, p, q, g.1)

one_fewest : (n j k : ℕ) → IsDigitCount 10 1 n j → IsDigitCount 10 1 n k → j ≡ k
one_fewest n j k f g =
    let p : j ≤ k = le_of_suc-le-suc (lt_of_not-le (not_more n j k f g)) in
    let q : k ≤ j = le_of_suc-le-suc (lt_of_not-le (not_more n k j g f)) in
    omega (arith, p, q)

pub digits_decimal : (n k : ℕ) (t : List ℕ) → IsDigitCount 10 1 n k → t ≡ last_digits 10 k n → t ≡ decimal n
digits_decimal n k t f e = e ∙ ap (λ (j : ℕ). last_digits 10 j n) (one_fewest n k (places_up_to n n) f (fewest_places n n (omega arith)))

-- ---- a number of 64 bits has at most 20 digits
pub at_most_twenty : (n k : ℕ) → n < 18446744073709551616 → IsDigitCount 10 1 n k → k ≤ 20
at_most_twenty n k h f = le_of_suc-le-suc (lt_of_not-le over)
  where
    over : 20 < k → ⊥
    over l =
        let p : 10 ^ (k - 1) ≤ n = f.2 (omega arith) in
        let m : 20 ≤ k - 1 = omega arith in
        let q : 100000000000000000000 ≤ 10 ^ (k - 1) = grows 20 (k - 1) m in
        omega (arith, p, q, h)
