-- Lines, as a loop puts them: the numbers before the last one with a space behind each, and the last with a line feed.
-- Assumes nothing.
use Prim.Native.Nat.{ℕ, zero, suc, ◌+◌}
use mathlib.Core.Path.{◌≡◌, refl, sym}
use mathlib.Core.List.{List, [], ◌∷◌, ◌++◌, append_assoc}
use native.Mathlib.Omega.{arith}
use lib.ListN.{length, get_or}
use Rattle.lists.specs.Puts.{Puts}
use Rattle.text.specs.Text.{decimal, line}
use Rattle.lists.proofs.Putting.{Turns, puts_as, puts_then}

-- the first i numbers, with a space behind each
unfoldable pub spaced : List ℕ → ℕ → List ℕ
spaced ns zero = []
spaced ns (suc i) = spaced ns i ++ (decimal (get_or ns i 0) ++ (32 ∷ []))

spaced_cons : (n : ℕ) (ns : List ℕ) (i : ℕ) → spaced (n ∷ ns) (suc i) ≡ decimal n ++ (32 ∷ spaced ns i)
unfolding spaced
spaced_cons n ns zero = refl
spaced_cons n ns (suc i) = rw (spaced_cons n ns i) (append_assoc (decimal n) (32 ∷ spaced ns i) _)

line_ends : (n : ℕ) (ns : List ℕ) → line (n ∷ ns) ≡ spaced (n ∷ ns) (length ns) ++ (decimal (get_or (n ∷ ns) (length ns) 0) ++ (10 ∷ []))
unfolding line spaced
line_ends n [] = refl
line_ends n (m ∷ ns) = rw (line_ends m ns, spaced_cons n (m ∷ ns) (length ns)) (sym (append_assoc (decimal n) (32 ∷ spaced (m ∷ ns) (length ns)) _))

-- a line: its last number behind the others
pub line_puts : (ns : List ℕ) {out : List ℕ} {at room i r s : ℕ} {mid after : List ℕ} → i + 1 ≡ length ns → Turns out at (spaced ns) room i r mid → Puts mid r (decimal (get_or ns i 0) ++ (10 ∷ [])) s after → Puts out at (line ns) s after
line_puts [] e w p = absurd (omega (arith, e))
line_puts (n ∷ ns) {i = i} e w p = let f : i ≡ length ns = omega arith in puts_as (sym (rw (← f) at (line_ends n ns))) (puts_then w.put p)
