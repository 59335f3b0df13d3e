-- A line of text tells its numbers, and so the first line of a plan's text tells its three.
-- Assumes nothing.
use Prim.Native.Nat.{ℕ, zero, suc, ◌+◌, ◌*◌, ◌-◌, ◌/◌, ◌%◌, ◌^◌, ◌≤◌, ◌<◌}
use mathlib.Core.Path.{◌≡◌, refl, sym, ◌∙◌, ap}
use mathlib.Core.List.{List, [], ◌∷◌, ◌++◌, append_assoc}
use native.Mathlib.Omega.{arith}
use native.Mathlib.Nat.{pow-suc}
use lib.Dec.{ltb, nleb→lt}
use Rattle.io.specs.Digits.{hex_digit_ascii, last_digits}
use Rattle.lists.proofs.Splitting.{All, none, all_more, one_split}
use Rattle.text.specs.Text.{places_up_to, decimal, line, first_line}
use Rattle.text.proofs.Decimal.{chosen, fewest_places}

-- ---- a number in decimal ends where a space or a line feed stands
-- The code of a digit is 48 more than it.
glyph_is : (d : ℕ) → d < 10 → hex_digit_ascii d ≡ 48 + d
glyph_is d h = chosen (λ (c : ℕ). c ≡ 48 + d) (ltb d 10) (48 + d) (87 + d) (λ _. refl) (λ t. absurd (omega (arith, nleb→lt (suc d) 10 t)))

-- The codes of digits are 48 and more; those of a space and a line feed are less.
digits_high : (k n : ℕ) → All (◌≤◌ 48) (last_digits 10 k n)
digits_high zero n = none
digits_high (suc k) n = all_more (digits_high k (n / 10)) (omega (arith, glyph_is (n % 10) (omega arith)))

-- ---- and it tells the number
-- The number that digits stand for, with a number in front of them.
unfoldable value : ℕ → List ℕ → ℕ
value v [] = v
value v (c ∷ cs) = value (v * 10 + (c - 48)) cs

-- One more digit at the end.
value_more : (v : ℕ) (cs : List ℕ) (c : ℕ) → value v (cs ++ (c ∷ [])) ≡ value v cs * 10 + (c - 48)
unfolding value
value_more v [] c = refl
value_more v (d ∷ cs) c = value_more (v * 10 + (d - 48)) cs c

-- Digits stand for the number that they are of, if they hold it.
value-digits : (k n : ℕ) → n < 10 ^ k → value 0 (last_digits 10 k n) ≡ n
unfolding value
value-digits zero n h = omega arith
value-digits (suc k) n h =
    let p : 10 ^ suc k ≡ 10 ^ k * 10 = pow-suc 10 k in
    let d : value 0 (last_digits 10 k (n / 10)) ≡ n / 10 = value-digits k (n / 10) (omega (arith, p)) in
    omega (arith, value_more 0 (last_digits 10 k (n / 10)) (hex_digit_ascii (n % 10)), glyph_is (n % 10) (omega arith), d)

-- A number in decimal stands for that number.
value-decimal : (n : ℕ) → value 0 (decimal n) ≡ n
value-decimal n = value-digits (places_up_to n n) n (fewest_places n n (omega arith)).1

-- ---- a line tells its numbers
-- A number in decimal, and a text behind it that begins with no digit.
one_number :
    (m n c d : ℕ) (r s rest rest' : List ℕ) → c < 48 → d < 48 →
    (decimal m ++ (c ∷ r)) ++ rest ≡ (decimal n ++ (d ∷ s)) ++ rest' → (m ≡ n) × (c ≡ d) × (r ++ rest ≡ s ++ rest')
one_number m n c d r s rest rest' f g e =
    let t = one_split (r ++ rest) (s ++ rest') (digits_high (places_up_to m m) m) (digits_high (places_up_to n n) n) (λ p. omega arith) (λ p. omega arith) (simp append_assoc at e) in
    (sym (value-decimal m) ∙ ap (value 0) t.0 ∙ value-decimal n, t.1, t.2)

-- A line of one number or more tells them: two texts that begin with such a line and are equal say the same, and go on the same.
pub one_line : (n m : ℕ) (ns ms rest rest' : List ℕ) → line (n ∷ ns) ++ rest ≡ line (m ∷ ms) ++ rest' → (n ∷ ns ≡ m ∷ ms) × (rest ≡ rest')
unfolding line
one_line n m [] [] rest rest' e = let t = one_number n m 10 10 [] [] rest rest' (omega arith) (omega arith) e in (cc t.0, t.2)
one_line n m [] (k ∷ ms) rest rest' e = absurd (omega (arith, (one_number n m 10 32 [] (line (k ∷ ms)) rest rest' (omega arith) (omega arith) e).1))
one_line n m (j ∷ ns) [] rest rest' e = absurd (omega (arith, (one_number n m 32 10 (line (j ∷ ns)) [] rest rest' (omega arith) (omega arith) e).1))
one_line n m (j ∷ ns) (k ∷ ms) rest rest' e =
    let t = one_number n m 32 32 (line (j ∷ ns)) (line (k ∷ ms)) rest rest' (omega arith) (omega arith) e in
    let u = one_line j k ns ms rest rest' t.2 in
    (cc (t.0, u.0), u.1)

-- The first line tells its three numbers: two texts that begin with such a line and are equal say the same.
pub one_first_line :
    (number place blocks number' place' blocks' : ℕ) (rest rest' : List ℕ) →
    first_line number place blocks ++ rest ≡ first_line number' place' blocks' ++ rest' →
    (number ≡ number') × (place ≡ place') × (blocks ≡ blocks')
one_first_line number place blocks number' place' blocks' rest rest' e =
    let t : line (number ∷ place ∷ blocks ∷ []) ++ rest ≡ line (number' ∷ place' ∷ blocks' ∷ []) ++ rest' = cc in
    let l : number ∷ place ∷ blocks ∷ [] ≡ number' ∷ place' ∷ blocks' ∷ [] = (one_line number number' (place ∷ blocks ∷ []) (place' ∷ blocks' ∷ []) rest rest' t).0 in
    (cc, cc, cc)
