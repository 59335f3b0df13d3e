-- Which rule of a list gives a number: rules of other numbers are passed by.
-- Assumes nothing.
use Prim.Native.Nat.{ℕ}
use mathlib.Core.Path.{◌≡◌}
use mathlib.Core.Bool.{false}
use mathlib.Core.List.{List, [], ◌∷◌, ◌++◌}
use mathlib.Core.Logic.{◌⊎◌, inl, inr, ⊎_elim}
use lib.Dec.{eqb}
use borrow.Author.Tests.{eqb-false}
use Rattle.trials.specs.Rules.{Rule, rule, Refused, Accepted}
use Rattle.trials.proofs.Passing.{Passed, Quiet}

-- rules that are silent do not refuse
pub refused_behind : (rs qs : List Rule) (number place : ℕ) → Accepted rs → Refused (rs ++ qs) number place → Refused qs number place
unfolding Accepted Refused
refused_behind [] qs number place a r = r
refused_behind (q ∷ rs) qs number place a (inl g) = absurd (a.0 place g.1)
refused_behind (q ∷ rs) qs number place a (inr r) = refused_behind rs qs number place a.1 r.1

-- a refusal by two lists of rules is one by the first, or the first is silent and it is one by the second
pub refused_by_either : (ps qs : List Rule) (number place : ℕ) → Refused (ps ++ qs) number place → Refused ps number place ⊎ (Accepted ps × Refused qs number place)
unfolding Accepted Refused
refused_by_either [] qs number place r = inr (tt, r)
refused_by_either (p ∷ ps) qs number place (inl g) = inl (inl g)
refused_by_either (p ∷ ps) qs number place (inr r) = ⊎_elim (λ f. inl (inr (r.0, f))) (λ s. inr ((r.0, s.0), s.1)) (refused_by_either ps qs number place r.1)

-- ---- a number that none of some rules has comes from the rules behind them, and those are silent
unfoldable Other : ℕ → List Rule → Type 0
Other number [] = Unit {0}
Other number (r ∷ rs) = (number ≡ r.number → ⊥) × Other number rs

pub record Others (number : ℕ) (rules : List Rule) : Type 0 where
  other : Other number rules

pub other_more : {number k : ℕ} {G : ℕ → Type 0} {rs : List Rule} → eqb number k ≡ false → Others number rs → Others number (rule k G ∷ rs)
unfolding Other
other_more {number} {k} e o = record { other = (eqb-false number k e, o.other) }

pub other_none : {number : ℕ} → Others number []
unfolding Other
other_none = record { other = tt }

-- what search is handed for a list of rules
pub ruleset others = (other_more, other_none)

pub by_another_rule : {number : ℕ} (rs qs : List Rule) (place : ℕ) → Others number rs → Refused (rs ++ qs) number place → Passed rs × Refused qs number place
unfolding Accepted Refused Other
by_another_rule {number} rs qs place o r = let s = go rs o.other r in (record { accepted = s.0 }, s.1)
  where
    go : (rs : List Rule) → Other number rs → Refused (rs ++ qs) number place → Accepted rs × Refused qs number place
    go [] h r = (tt, r)
    go (q ∷ rs) h (inl g) = absurd (h.0 g.0)
    go (q ∷ rs) h (inr r) = let s = go rs h.1 r.1 in ((r.0, s.0), s.1)

-- ---- a number that a list of rules never gives
pub record Never (number : ℕ) (rules : List Rule) : Type 0 where
  pub never : (place : ℕ) → Refused rules number place → ⊥

pub never_none : {number : ℕ} → Never number []
unfolding Refused
never_none = record { never = λ place r. r }

-- a rule of another number: behind it that rule is silent
pub never_other : {number k : ℕ} {G : ℕ → Type 0} {rs : List Rule} → eqb number k ≡ false → (Quiet (rule k G) → Never number rs) → Never number (rule k G ∷ rs)
unfolding Refused
never_other {number} {k} e n = record { never = λ place r. ⊎_elim (λ g. eqb-false number k e g.0) (λ g. (n (record { silent = g.0 })).never place g.1) r }

-- the rule itself, where it is silent
pub never_this : {number : ℕ} {q : Rule} {rs : List Rule} → Quiet q → Never number rs → Never number (q ∷ rs)
unfolding Refused
never_this s n = record { never = λ place r. ⊎_elim (λ g. s.silent place g.1) (λ g. n.never place g.1) r }
