-- Two lists of rules that are given alike: a refusal by the one is a refusal by the other, and so is a silence.
-- Assumes nothing.
use Prim.Native.Nat.{ℕ}
use mathlib.Core.Path.{sym, ◌≡◌, refl, ◌∙◌}
use mathlib.Core.List.{List, [], ◌∷◌}
use mathlib.Core.Logic.{inl, inr}
use Rattle.trials.specs.Rules.{Rule, rule, Overall, Refused, Accepted}

-- The same number, given with the same places.
pub record SameRule (p q : Rule) : Type 0 where
  pub number_is : p.number ≡ q.number
  pub there : (place : ℕ) → p.given place → q.given place
  pub back : (place : ℕ) → q.given place → p.given place

-- One by one.
unfoldable AlikeIs : List Rule → List Rule → Type 0
AlikeIs [] [] = Unit {0}
AlikeIs [] (q ∷ qs) = ⊥
AlikeIs (p ∷ ps) [] = ⊥
AlikeIs (p ∷ ps) (q ∷ qs) = SameRule p q × AlikeIs ps qs

pub record Alike (ps qs : List Rule) : Type 0 where
  alike : AlikeIs ps qs

pub alike_none : Alike [] []
unfolding AlikeIs
alike_none = record { alike = tt }

pub alike_more : {p q : Rule} {ps qs : List Rule} → SameRule p q → Alike ps qs → Alike (p ∷ ps) (q ∷ qs)
unfolding AlikeIs
alike_more s a = record { alike = (s, a.alike) }

-- two rules of one number, of the whole list
pub same_overall : {number : ℕ} {P Q : Type 0} → (P → Q) → (Q → P) → SameRule (rule number (Overall P)) (rule number (Overall Q))
same_overall f g = record { number_is = refl; there = λ place h. (f h.0, h.1); back = λ place h. (g h.0, h.1) }

pub alike_back : {ps qs : List Rule} → Alike ps qs → Alike qs ps
unfolding AlikeIs
alike_back {ps} {qs} a = record { alike = go ps qs a.alike }
  where
    go : (ps qs : List Rule) → AlikeIs ps qs → AlikeIs qs ps
    go [] [] h = tt
    go [] (q ∷ qs) h = absurd h
    go (p ∷ ps) [] h = absurd h
    go (p ∷ ps) (q ∷ qs) h = (record { number_is = sym h.0.number_is; there = h.0.back; back = h.0.there }, go ps qs h.1)

pub alike_accepted : {ps qs : List Rule} → Alike ps qs → Accepted ps → Accepted qs
unfolding AlikeIs Accepted
alike_accepted {ps} {qs} a = go ps qs a.alike
  where
    go : (ps qs : List Rule) → AlikeIs ps qs → Accepted ps → Accepted qs
    go [] [] h s = tt
    go [] (q ∷ qs) h s = absurd h
    go (p ∷ ps) [] h s = absurd h
    go (p ∷ ps) (q ∷ qs) h s = (λ place g. s.0 place (h.0.back place g), go ps qs h.1 s.1)

pub alike_refused : {ps qs : List Rule} (number place : ℕ) → Alike ps qs → Refused ps number place → Refused qs number place
unfolding AlikeIs Refused
alike_refused {ps} {qs} number place a = go ps qs a.alike
  where
    go : (ps qs : List Rule) → AlikeIs ps qs → Refused ps number place → Refused qs number place
    go [] [] h r = r
    go [] (q ∷ qs) h r = absurd h
    go (p ∷ ps) [] h r = absurd h
    go (p ∷ ps) (q ∷ qs) h (inl g) = inl (g.0 ∙ h.0.number_is, h.0.there place g.1)
    go (p ∷ ps) (q ∷ qs) h (inr r) = inr (λ place g. r.0 place (h.0.back place g), go ps qs h.1 r.1)
