-- The rows of a buffer as arrays: what `as_chunks` gives at a place.
-- Assumes nothing.
use Prim.Native.Nat.{ℕ, zero, suc, ◌+◌, ◌*◌, ◌≤◌, ◌<◌}
use mathlib.Core.Path.{◌≡◌, refl, ◌∙◌, ap}
use mathlib.Core.List.{List, []}
use native.Mathlib.Omega.{arith}
use native.Mathlib.Nat.{not-suc-le-zero}
use lib.ListN.{get_or, take, drop}
use lib.Seq.{drop-drop, get_or-take}
use Rattle.std.specs.Simd.{first_chunks}

-- the chunk at a place
pub chunk_at : (n k : ℕ) (xs : List ℕ) (i : ℕ) (d : List ℕ) → i < k → get_or (first_chunks n k xs) i d ≡ take n (drop (n * i) xs)
chunk_at n zero xs i d h = absurd (not-suc-le-zero h)
chunk_at n (suc k) xs zero d h = let e : n * 0 ≡ 0 = omega arith in rw e refl
chunk_at n (suc k) xs (suc i) d h =
    let e : n + n * i ≡ n * suc i = omega arith in
    chunk_at n k (drop n xs) i d (omega arith) ∙ ap (take n) (drop-drop (n * i) n xs ∙ ap (λ j. drop j xs) e)

-- the row at a place, of the first so many
pub row_at : (n m : ℕ) (xs : List ℕ) (blocks i : ℕ) → i < blocks → blocks ≤ m → get_or (take blocks (first_chunks n m xs)) i [] ≡ take n (drop (n * i) xs)
row_at n m xs blocks i h g = get_or-take blocks (first_chunks n m xs) i [] h ∙ chunk_at n m xs i [] (omega arith)
