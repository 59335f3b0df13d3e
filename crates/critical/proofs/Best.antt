-- The last of the best so far, of reports looked at one by one: by the order of fractions, or by the order turned round.
-- Assumes nothing.
use Prim.Native.Nat.{ℕ, suc, ◌≤◌, ◌<◌}
use mathlib.Core.Path.{◌≡◌, sym, subst}
use mathlib.Core.Logic.{⊎_elim}
use native.Mathlib.Omega.{arith}
use native.Mathlib.Nat.{eq-or-lt_of_le, le_of_suc-le-suc, le_refl}
use Rattle.fraction.specs.Fraction.{Fraction, ◌≼◌, ◌≺◌}
use Rattle.fraction.proofs.Order.{≼_refl, ≼_trans, ≺_≼, ≺_≼_absurd}

infix 50 ◌≻◌ ◌≽◌
-- ---- a direction: the order of fractions, or the order turned round. What is shown of one holds of the other.
pub record Direction (lt le : Fraction → Fraction → Type 0) : Type 0 where
  pub same : (f : Fraction) → le f f
  pub weaken : (f g : Fraction) → lt f g → le f g
  pub trans : (f g h : Fraction) → le f g → le g h → le f h
  pub clash : (f g : Fraction) → lt f g → le g f → ⊥

abbrev pub ◌≻◌ : Fraction → Fraction → Type 0
f ≻ g = g ≺ f

abbrev pub ◌≽◌ : Fraction → Fraction → Type 0
f ≽ g = g ≼ f

pub up : Direction ◌≺◌ ◌≼◌
up = record { same = ≼_refl; weaken = λ f g. ≺_≼; trans = λ f g h. ≼_trans; clash = λ f g. ≺_≼_absurd }

pub down : Direction ◌≻◌ ◌≽◌
down = record { same = ≼_refl; weaken = λ f g. ≺_≼; trans = λ f g h p q. ≼_trans q p; clash = λ f g. ≺_≼_absurd }

-- ---- the last of the best so far
-- h is the last of the reports p to j − 1 with the least (or, turned round, the greatest) g
pub record Best (lt le : Fraction → Fraction → Type 0) (g : ℕ → Fraction) (p j h : ℕ) : Type 0 where
  pub from : p ≤ h
  pub before : h < j
  pub best : (i : ℕ) → p ≤ i → i < j → le (g h) (g i)
  pub last : (i : ℕ) → h < i → i < j → lt (g h) (g i)

module _ {lt le : Fraction → Fraction → Type 0} (o : Direction lt le) (g : ℕ → Fraction) (p : ℕ) where
  pub best_first : Best lt le g p (suc p) p
  best_first = record {
    from = le_refl p;
    before = le_refl (suc p);
    best = λ i h k. let e : i ≡ p = omega arith in subst (λ (x : ℕ). le (g p) (g x)) (sym e) (o.same (g p));
    last = λ i h k. absurd (omega arith);
  }

  module _ (j h : ℕ) (b : Best lt le g p j h) where
    -- a report that is worse changes nothing
    pub best_keep : lt (g h) (g j) → Best lt le g p (suc j) h
    best_keep c = record {
      from = b.from;
      before = omega (arith, b.before);
      best = λ i l k. ⊎_elim (λ (e : i ≡ j). subst (λ (x : ℕ). le (g h) (g x)) (sym e) (o.weaken (g h) (g j) c)) (λ m. b.best i l m) (eq-or-lt_of_le (le_of_suc-le-suc k));
      last = λ i l k. ⊎_elim (λ (e : i ≡ j). subst (λ (x : ℕ). lt (g h) (g x)) (sym e) c) (λ m. b.last i l m) (eq-or-lt_of_le (le_of_suc-le-suc k));
    }

    -- one that is as good takes its place: the last is kept
    pub best_take : le (g j) (g h) → Best lt le g p (suc j) j
    best_take c = record {
      from = omega (arith, b.from, b.before);
      before = le_refl (suc j);
      best = λ i l k. ⊎_elim (λ (e : i ≡ j). subst (λ (x : ℕ). le (g j) (g x)) (sym e) (o.same (g j))) (λ m. o.trans (g j) (g h) (g i) c (b.best i l m)) (eq-or-lt_of_le (le_of_suc-le-suc k));
      last = λ i l k. absurd (omega arith);
    }
