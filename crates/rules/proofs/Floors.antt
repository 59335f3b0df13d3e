-- A floor that may be absent: what is told of it, what can be decided of it, and what rule 17 leaves.
-- Assumes nothing.
use Prim.Native.Nat.{ℕ, ◌*◌, ◌<◌, max}
use mathlib.Core.Path.{◌≡◌, sym, ◌∙◌, ap₂, subst}
use mathlib.Core.Bool.{Bool, false, true≢false}
use mathlib.Core.Logic.{inl, inr}
use native.Mathlib.Decide.{dec_lt}
use lib.Dec.{ltb}
use Rattle.trials.specs.Tries.{Tells}
use Rattle.trials.proofs.Trying.{tells_as, tells_below}
use Rattle.trials.proofs.Passing.{Quiet, untrue}
use Rattle.trials.proofs.Deciding.{Decidable}
use Rattle.fraction.specs.Fraction.{Fraction, ◌≺◌, over}
use Rattle.fraction.proofs.Order.{split}
use Rattle.slowest.specs.Slowest.{UpTo}
use Rattle.rules.specs.Offsets.{pace_of, slowest_in}
use Rattle.rules.specs.Rules.{OfFloor, below_rule}
use Rattle.rules.specs.declared.Roll.{Roll}
use Rattle.std.specs.Prelude.{Option, None, Some}
use Rattle.fraction.specs.declared.Pace.{Pace}

-- ---- tests
module _ (P : ℕ → ℕ → Type 0) {floor : Option Pace} where
  -- nothing is so of a floor that is absent
  pub tells_absent : floor ≡ None → Tells (OfFloor floor P) false
  unfolding OfFloor
  tells_absent e = subst (λ (f : Option Pace). Tells (OfFloor f P) false) (sym e) (record { yes = λ h. absurd (true≢false (sym h)); no = λ _ h. h })

  -- a test of R and T tells of the floor that they make
  pub tells_floor : {pace : Pace} {b : Bool} → floor ≡ Some pace → Tells (P pace.ticks pace.operations) b → Tells (OfFloor floor P) b
  unfolding OfFloor
  tells_floor {pace} {b} e h = subst (λ (f : Option Pace). Tells (OfFloor f P) b) (sym e) h

-- two paces, compared by cross products
pub tells_slower : (r t p q : ℕ) {slow fast : Pace} {b : Bool} → slow ≡ record { ticks = r; operations = max 1 t } → fast ≡ record { ticks = p; operations = max 1 q } → b ≡ ltb (slow.ticks * fast.operations) (fast.ticks * slow.operations) → Tells (over r t ≺ over p q) b
unfolding over
tells_slower r t p q {slow} {fast} {b} e e' h =
    let g : b ≡ ltb (r * max 1 q) (p * max 1 t) = h ∙ ap₂ (λ (x y : Pace). ltb (x.ticks * y.operations) (y.ticks * x.operations)) e e' in
    subst (Tells (over r t ≺ over p q)) (sym g)
    (tells_as (λ (l : r * max 1 q < p * max 1 t). record { cross = l }) (λ (l : over r t ≺ over p q). l.cross) tells_below)

-- ---- what can be decided of every R and T can be of a floor
unfoldable pub dec_floor : (floor : Option Pace) (P : ℕ → ℕ → Type 0) → ((r t : ℕ) → Decidable (P r t)) → Decidable (OfFloor floor P)
unfolding OfFloor
dec_floor None P d = record { decided = inr (λ h. h) }
dec_floor (Some pace) P d = d pace.ticks pace.operations

unfoldable pub dec_slower : {f g : Fraction} → Decidable (f ≺ g)
dec_slower {f} {g} = record { decided = elim (dec_lt (f.num * g.den) (g.num * f.den)) [ yes h ↦ inl (record { cross = h }) | no h ↦ inr (λ l. h l.cross) ] }

-- ---- a floor that rule 17 leaves is not below P/Q
pub good_floor : (floor : Option Pace) (terms : Roll) → Quiet (below_rule floor terms) → UpTo (slowest_in floor) (pace_of terms)
unfolding OfFloor
good_floor None terms q = tt
good_floor (Some pace) terms q = split (over pace.ticks pace.operations) (pace_of terms) (λ l. absurd (untrue q l)) (λ g. g)
