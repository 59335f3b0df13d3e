-- The marks at a roll's end, and what they decide.
-- Assumes nothing.
use Prim.Native.Nat.{ℕ, suc, ◌-◌, ◌≤◌, ◌<◌}
use mathlib.Core.Path.{◌≡◌, refl, sym, ◌∙◌, ap, ap₂}
use mathlib.Core.Bool.{Bool, true, false, ◌&&◌, cond, true≢false}
use mathlib.Core.List.{List, [], ◌∷◌}
use mathlib.Core.Logic.{◌⊎◌, inl, inr, ⊎_elim}
use native.Mathlib.Omega.{arith}
use native.Mathlib.Decide.{ℕ_discrete}
use lib.Dec.{eqb}
use lib.ListN.{length, get_or, drop}
use lib.Pointwise.{pointwise}
use lib.Seq.{drop-cons, drop-length}
use Rattle.std.specs.List.{ends_with}
use Rattle.std.proofs.Math.Bool.{and-true}
use borrow.Author.Tests.{eqb-true, eq-eqb, ne_eqb}
use Rattle.trials.specs.Tries.{Tells}
use Rattle.trials.proofs.Trying.{tells_yes}
use Rattle.trials.proofs.Deciding.{Decidable}
use Rattle.fraction.proofs.Scale.{cases}
use Rattle.std.specs.Prelude.{None, Some}
use Rattle.roll.specs.Format.{r_of, t_of, mark, ends_in, has_floor, trailer_long, floor_of, Marked}

-- ---- the last two bytes, compared with a mark
last_two : (s : List ℕ) → 2 ≤ length s → drop (length s - 2) s ≡ get_or s (length s - 2) 0 ∷ get_or s (length s - 1) 0 ∷ []
last_two s h =
    let one : suc (length s - 2) ≡ length s - 1 = omega arith in
    let none : suc (length s - 1) ≡ length s = omega arith in
    let first = drop-cons s (length s - 2) 0 (omega arith) in
    let second = drop-cons s (length s - 1) 0 (omega arith) in
    rw (first, one, second, none, drop-length s)

eqb_comm : (a b : ℕ) → eqb a b ≡ eqb b a
eqb_comm a b = elim (ℕ_discrete a b) [ yes e ↦ ap₂ (λ (x y : ℕ). eqb x y) e (sym e) | no h ↦ ne_eqb _ _ h ∙ sym (ne_eqb _ _ (λ q. h (sym q))) ]

-- what a comparison of the whole mark at once gives
pub ends_with_mark : (s m : List ℕ) → 16 ≤ length s → length m ≡ 2 → ends_with eqb s m ≡ ends_in s m
unfolding ends_in
ends_with_mark s (a ∷ b ∷ []) h e =
    let x = get_or s (length s - 2) 0 in
    let y = get_or s (length s - 1) 0 in
    ap (λ (l : List ℕ). pointwise eqb (a ∷ b ∷ []) l) (last_two s (omega arith))
    ∙ ap₂ (λ (p q : Bool). p && q) (eqb_comm a x) (and-true (eqb b y) ∙ eqb_comm b y)
ends_with_mark s [] h e = absurd (omega (arith, e))
ends_with_mark s (a ∷ []) h e = absurd (omega (arith, e))
ends_with_mark s (a ∷ b ∷ c ∷ m) h e = absurd (omega (arith, e))

-- ---- and byte by byte
module _ (s m : List ℕ) where
  pub ends_in_true : get_or s (length s - 2) 0 ≡ get_or m 0 0 → get_or s (length s - 1) 0 ≡ get_or m 1 0 → ends_in s m ≡ true
  unfolding ends_in
  ends_in_true e e' = ap₂ (λ (a b : Bool). a && b) (eq-eqb _ _ e) (eq-eqb _ _ e')

  pub its_bytes : ends_in s m ≡ true → (get_or s (length s - 2) 0 ≡ get_or m 0 0) × (get_or s (length s - 1) 0 ≡ get_or m 1 0)
  unfolding ends_in
  its_bytes e = let b = both (eqb (get_or s (length s - 2) 0) (get_or m 0 0)) (eqb (get_or s (length s - 1) 0) (get_or m 1 0)) e in (eqb-true _ _ b.0, eqb-true _ _ b.1)
    where
      both : (a b : Bool) → (a && b) ≡ true → (a ≡ true) × (b ≡ true)
      both true b e = (refl, e)
      both false b e = absurd (true≢false (sym e))

-- two rolls with the same last two bytes end in the same marks
pub same_ends : (s t m : List ℕ) → get_or s (length s - 2) 0 ≡ get_or t (length t - 2) 0 → get_or s (length s - 1) 0 ≡ get_or t (length t - 1) 0 → ends_in s m ≡ ends_in t m
unfolding ends_in
same_ends s t m e e' = ap₂ (λ (a b : ℕ). eqb a (get_or m 0 0) && eqb b (get_or m 1 0)) e e'

-- ---- what they decide
module _ (s : List ℕ) where
  pub with_floor : has_floor s ≡ true → (trailer_long s ≡ 20) × (floor_of s ≡ Some (record { ticks = r_of s; operations = t_of s }))
  unfolding trailer_long floor_of
  with_floor e = (ap (λ (b : Bool). cond b 20 16) e, ap (λ (b : Bool). cond b (Some (record { ticks = r_of s; operations = t_of s })) None) e)

  pub without_floor : has_floor s ≡ false → (trailer_long s ≡ 16) × (floor_of s ≡ None)
  unfolding trailer_long floor_of
  without_floor e = (ap (λ (b : Bool). cond b 20 16) e, ap (λ (b : Bool). cond b (Some (record { ticks = r_of s; operations = t_of s })) None) e)

  -- every trailer has 16 bytes, and none more than 20
  pub trailer_range : (16 ≤ trailer_long s) × (trailer_long s ≤ 20)
  trailer_range = go (has_floor s) refl
    where
      go : (b : Bool) → has_floor s ≡ b → (16 ≤ trailer_long s) × (trailer_long s ≤ 20)
      go true e = let l = (with_floor e).0 in (omega (arith, l), omega (arith, l))
      go false e = let l = (without_floor e).0 in (omega (arith, l), omega (arith, l))

  -- a roll that is not shorter than its trailer
  pub not_short : (length s < trailer_long s → ⊥) → (trailer_long s ≤ length s) × (16 ≤ length s)
  not_short h = let l : trailer_long s ≤ length s = cases (length s) (trailer_long s) (λ k. absurd (h k)) (λ g. g) in (l, omega (arith, l, trailer_range.0))

  -- a roll marked AQ has no floor
  pub plain_mark : ends_in s mark ≡ true → has_floor s ≡ false
  plain_mark e = go (has_floor s) refl
    where
      go : (b : Bool) → has_floor s ≡ b → has_floor s ≡ false
      go true f = absurd (omega (arith, (its_bytes s _ e).1, (its_bytes s _ f).1))
      go false f = f

  -- ---- the test of rule 11
  pub not_unmarked : Marked s → Tells (Marked s → ⊥) false
  not_unmarked m = record { yes = λ e. absurd (true≢false (sym e)); no = λ _ n. n m }

  pub neither : ends_in s mark ≡ false → has_floor s ≡ false → Marked s → ⊥
  neither e f m = ⊎_elim (λ g. true≢false (sym g ∙ e)) (λ g. true≢false (sym g ∙ f)) m.is

  pub is_unmarked : ends_in s mark ≡ false → has_floor s ≡ false → Tells (Marked s → ⊥) true
  is_unmarked e f = tells_yes (neither e f)

unfoldable pub dec_marked : {s : List ℕ} → Decidable (Marked s)
dec_marked {s} = record { decided = go (ends_in s mark) refl (has_floor s) refl }
  where
    go : (a : Bool) → ends_in s mark ≡ a → (b : Bool) → has_floor s ≡ b → Marked s ⊎ (Marked s → ⊥)
    go true e b f = inl (record { is = inl e })
    go false e true f = inl (record { is = inr f })
    go false e false f = inr (neither s e f)
