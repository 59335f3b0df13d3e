-- Rules, tried in their order: what a rule is, and which refusal a list of rules gives.
-- Assumes nothing.
use Rattle.std.specs.Prelude.{ℕ, zero, suc, ◌<◌, ◌≡◌, List, [], ◌∷◌, ◌⊎◌}
use Rattle.answers.specs.Numbers.{number}
use Rattle.answers.specs.declared.Refusal.{Refusal}

-- A rule: its number, and the place with which it is given (it is given exactly when there is one).
pub record Rule : Type 1 where
  pub number : ℕ
  pub given : ℕ → Type 0

abbrev pub rule : ℕ → (ℕ → Type 0) → Rule
rule number given = record { number = number; given = given }

-- Given of the whole list: the place is 0.
abbrev pub Overall : Type 0 → ℕ → Type 0
Overall P place = P × (place ≡ 0)

-- Given of a report: the place is the least report at fault.
pub record Least (n : ℕ) (Fault : ℕ → Type 0) (place : ℕ) : Type 0 where
  pub on_list : place < n
  pub at_fault : Fault place
  pub least : (i : ℕ) → i < place → Fault i → ⊥

-- A number outside a range.
abbrev pub Outside : ℕ → ℕ → ℕ → Type 0
Outside low high x = (x < low) ⊎ (high < x)

-- Number i is below the one before.
unfoldable pub Falls : (ℕ → ℕ) → ℕ → Type 0
Falls a zero = ⊥
Falls a (suc i) = a (suc i) < a i

-- A rule is not given.
abbrev pub Silent : Rule → Type 0
Silent r = (place : ℕ) → r.given place → ⊥

-- The rules are tried in order, and the first that is given refuses, with its number and place.
unfoldable pub Refused : List Rule → ℕ → ℕ → Type 0
Refused [] number place = ⊥
Refused (r ∷ rs) number place = ((number ≡ r.number) × r.given place) ⊎ (Silent r × Refused rs number place)

-- The refusal is the one that the rules give.
pub record Refuses (rules : List Rule) (refusal : Refusal) : Type 0 where
  pub refused : Refused rules (number refusal.fault) refusal.place

-- None is given.
unfoldable pub Accepted : List Rule → Type 0
Accepted [] = Unit {0}
Accepted (r ∷ rs) = Silent r × Accepted rs
