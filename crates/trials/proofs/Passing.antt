-- A list of rules none of which is given, and one rule of it, found by search: no proof counts a rule's place in the list.
-- Assumes nothing.
use Prim.Native.Nat.{ℕ, zero, suc, ◌≤◌, ◌<◌}
use mathlib.Core.Path.{refl}
use mathlib.Core.List.{List, [], ◌∷◌, ◌++◌}
use native.Mathlib.Omega.{arith}
use native.Mathlib.Nat.{le_refl}
use Rattle.trials.specs.Rules.{Rule, rule, Overall, Least, Silent, Accepted}

pub record Passed (rules : List Rule) : Type 0 where
  pub accepted : Accepted rules

pub record Quiet (q : Rule) : Type 0 where
  pub silent : Silent q

-- these two find a rule in a list of rules: search finding
pub heads : {q : Rule} {qs : List Rule} → Passed (q ∷ qs) → Quiet q
unfolding Accepted
heads p = record { silent = p.accepted.0 }

pub tails : {q : Rule} {qs : List Rule} → Passed (q ∷ qs) → Passed qs
unfolding Accepted
tails p = record { accepted = p.accepted.1 }

pub ruleset finding = (heads, tails)

-- and these make a list of rules none of which is given
pub more : {q : Rule} {qs : List Rule} → Quiet q → Passed qs → Passed (q ∷ qs)
unfolding Accepted
more s p = record { accepted = (s.silent, p.accepted) }

pub none : Passed []
unfolding Accepted
none = record { accepted = tt }

-- two lists, one behind the other
append : (ps qs : List Rule) → Accepted ps → Accepted qs → Accepted (ps ++ qs)
unfolding Accepted
append [] qs a b = b
append (p ∷ ps) qs a b = (a.0, append ps qs a.1 b)

pub both : (ps qs : List Rule) → Passed ps → Passed qs → Passed (ps ++ qs)
both ps qs a b = record { accepted = append ps qs a.accepted b.accepted }

front : (ps qs : List Rule) → Accepted (ps ++ qs) → Accepted ps
unfolding Accepted
front [] qs a = tt
front (p ∷ ps) qs a = (a.0, front ps qs a.1)

back : (ps qs : List Rule) → Accepted (ps ++ qs) → Accepted qs
unfolding Accepted
back [] qs a = a
back (p ∷ ps) qs a = back ps qs a.1

pub first_part : (ps qs : List Rule) → Passed (ps ++ qs) → Passed ps
first_part ps qs a = record { accepted = front ps qs a.accepted }

pub last_part : (ps qs : List Rule) → Passed (ps ++ qs) → Passed qs
last_part ps qs a = record { accepted = back ps qs a.accepted }

-- ---- what a rule that is not given leaves
-- where no place is the least at fault, nothing is
none_at_fault : (n : ℕ) (F : ℕ → Type 0) → ((p : ℕ) → Least n F p → ⊥) → (i : ℕ) → i < n → F i → ⊥
none_at_fault n F h i l f = go i i (le_refl i) l f
  where
    go : (m i : ℕ) → i ≤ m → i < n → F i → ⊥
    go zero i k l f = h i (record { on_list = l; at_fault = f; least = λ j e. absurd (omega arith) })
    go (suc m) i k l f = h i (record { on_list = l; at_fault = f; least = λ j e. go m j (omega arith) (omega arith) })

pub unfaulted : {number n : ℕ} {Fault : ℕ → Type 0} → Quiet (rule number (Least n Fault)) → (i : ℕ) → i < n → Fault i → ⊥
unfaulted {number} {n} {Fault} quiet = none_at_fault n Fault quiet.silent

pub untrue : {number : ℕ} {P : Type 0} → Quiet (rule number (Overall P)) → P → ⊥
untrue {number} {P} quiet p = quiet.silent 0 (p, refl)

-- and the other way
pub not_given : {number : ℕ} {P : Type 0} → (P → ⊥) → Quiet (rule number (Overall P))
not_given f = record { silent = λ place g. f g.0 }
