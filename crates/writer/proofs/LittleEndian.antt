-- Numbers and their bytes, both ways; and numbers at a place of a list that stands behind or before another.
-- Assumes nothing.
use Prim.Native.Nat.{ℕ, ◌+◌, ◌*◌, ◌/◌, ◌%◌, ◌^◌, ◌≤◌, ◌<◌}
use mathlib.Core.Path.{◌≡◌, ◌∙◌, ap, ap₂}
use mathlib.Core.List.{List, [], ◌∷◌, ◌++◌}
use native.Mathlib.Omega.{arith}
use lib.ListN.{length, get_or, get_or-append}
use lib.Seq.{get_or-append-add}
use Rattle.roll.specs.Format.{u16_at, u32_at}
use Rattle.writer.specs.Bytes.{le16}

-- ---- what is written is read
pub two_bytes : (n : ℕ) → n < 2 ^ 16 → n % 256 + 256 * (n / 256 % 256) ≡ n
two_bytes n h = omega arith

pub four_bytes : (n : ℕ) → n < 2 ^ 32 → n % 65536 % 256 + 256 * (n % 65536 / 256 % 256) + 65536 * (n / 65536 % 256 + 256 * (n / 65536 / 256 % 256)) ≡ n
four_bytes n h = omega arith

-- and what is read is written
pub bytes_two : (a b : ℕ) → a < 256 → b < 256 → le16 (a + 256 * b) ≡ a ∷ b ∷ []
bytes_two a b h k = ap₂ (λ (x y : ℕ). x ∷ y ∷ []) (omega arith) (omega arith)

-- ---- numbers at a place of a list
-- equal bytes, equal numbers
same_two : (s t : List ℕ) (a b : ℕ) → get_or s a 0 ≡ get_or t b 0 → get_or s (a + 1) 0 ≡ get_or t (b + 1) 0 → u16_at s a ≡ u16_at t b
same_two s t a b e f = ap₂ (λ (x y : ℕ). x + 256 * y) e f

-- behind others
pub byte_behind : (xs ys : List ℕ) (at k : ℕ) → at ≡ length xs + k → get_or (xs ++ ys) at 0 ≡ get_or ys k 0
byte_behind xs ys at k e = ap (λ (j : ℕ). get_or (xs ++ ys) j 0) e ∙ get_or-append-add xs ys k 0

pub u16_behind : (xs ys : List ℕ) (at k : ℕ) → at ≡ length xs + k → u16_at (xs ++ ys) at ≡ u16_at ys k
u16_behind xs ys at k e = same_two (xs ++ ys) ys at k (byte_behind xs ys at k e) (byte_behind xs ys (at + 1) (k + 1) (omega (arith, e)))

pub u32_behind : (xs ys : List ℕ) (at k : ℕ) → at ≡ length xs + k → u32_at (xs ++ ys) at ≡ u32_at ys k
u32_behind xs ys at k e =
    ap₂ (λ (x y : ℕ). x + 65536 * y) (u16_behind xs ys at k e) (u16_behind xs ys (at + 2) (k + 2) (omega (arith, e)))

-- before others
u16_before : (xs ys : List ℕ) (at : ℕ) → at + 2 ≤ length xs → u16_at (xs ++ ys) at ≡ u16_at xs at
u16_before xs ys at h =
    same_two (xs ++ ys) xs at at (get_or-append xs ys 0 at (omega (arith, h))) (get_or-append xs ys 0 (at + 1) (omega (arith, h)))

pub u32_before : (xs ys : List ℕ) (at : ℕ) → at + 4 ≤ length xs → u32_at (xs ++ ys) at ≡ u32_at xs at
u32_before xs ys at h =
    ap₂ (λ (x y : ℕ). x + 65536 * y) (u16_before xs ys at (omega (arith, h))) (u16_before xs ys (at + 2) (omega (arith, h)))
