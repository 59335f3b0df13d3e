-- A list split at its first number that is not of a kind: it is split in one way.
-- Assumes nothing.
use Prim.Native.Nat.{ℕ}
use mathlib.Core.Path.{◌≡◌, refl, sym, subst}
use mathlib.Core.List.{List, [], ◌∷◌, ◌++◌, head-eq_of_cons-eq, tail-eq_of_cons-eq}

-- All numbers of a list are of a kind.
pub data All (P : ℕ → Type 0) : List ℕ → Type 0 where
  none : All P []
  more : {x : ℕ} {xs : List ℕ} → P x → All P xs → All P (x ∷ xs)

module _ {P : ℕ → Type 0} where
  -- One more of the kind at the end.
  pub all_more : {xs : List ℕ} {x : ℕ} → All P xs → P x → All P (xs ++ (x ∷ []))
  all_more none p = more p none
  all_more (more q a) p = more q (all_more a p)

  -- Two equal lists, each of numbers of the kind, one that is not, and any others: the parts are the same.
  pub one_split :
      {xs ys : List ℕ} {c d : ℕ} (r s : List ℕ) → All P xs → All P ys → (P c → ⊥) → (P d → ⊥) →
      xs ++ (c ∷ r) ≡ ys ++ (d ∷ s) → (xs ≡ ys) × (c ≡ d) × (r ≡ s)
  one_split r s none none f g e = (refl, cc, cc)
  one_split r s none (more q b) f g e = absurd (f (subst P (sym (head-eq_of_cons-eq e)) q))
  one_split r s (more p a) none f g e = absurd (g (subst P (head-eq_of_cons-eq e) p))
  one_split r s (more p a) (more q b) f g e = let t = one_split r s a b f g (tail-eq_of_cons-eq e) in (cc t.0, t.1, t.2)
