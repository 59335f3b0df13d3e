-- What functions that try rules tell each other: tests, searches for a fault, and the verdict of rules one behind the other.
-- Assumes nothing.
use Rattle.std.specs.Prelude.{ℕ, ◌<◌, ◌≡◌, Bool, true, false, List, Option, Some, None, IfSome, IfNone, Result, Ok, Err}
use Rattle.answers.specs.declared.Fault.{Fault}
use Rattle.answers.specs.declared.Refusal.{Refusal}
use Rattle.trials.specs.Rules.{Rule, Least, Refused, Accepted, Refuses}

-- A test tells whether something is so.
pub record Tells (P : Type 0) (b : Bool) : Type 0 where
  pub yes : b ≡ true → P
  pub no : b ≡ false → P → ⊥

-- What a search for the least fault gives: its place, or none where nothing is at fault.
pub record FirstOf (n : ℕ) (Fault : ℕ → Type 0) (r : Option ℕ) : Type 0 where
  pub found : IfSome r (λ place. Least n Fault place)
  pub none : IfNone r ((i : ℕ) → i < n → Fault i → ⊥)

-- What rules give: nothing, or a refusal.
abbrev pub Verdict : Type 0
Verdict = Result (Unit {0}) Refusal

-- The verdict of one test: where it holds, the refusal for this, with place 0.
abbrev pub refuse_if : Bool → Fault → Verdict
refuse_if true fault = Err (record { fault = fault; place = 0 })
refuse_if false fault = Ok tt

pub record RefuseIf (given : Bool) (fault : Fault) (r : Verdict) : Type 0 where
  pub is : r ≡ refuse_if given fault

-- The verdict of one search: where there is a place, the refusal for this, with that place.
abbrev pub refuse_at : Option ℕ → Fault → Verdict
refuse_at (Some place) fault = Err (record { fault = fault; place = place })
refuse_at None fault = Ok tt

pub record RefuseAt (found : Option ℕ) (fault : Fault) (r : Verdict) : Type 0 where
  pub is : r ≡ refuse_at found fault

-- The verdict so far, of rules whose refusals are of any type; where that is silent and a test holds, this refusal.
abbrev pub or_if : {R : Type 0} → Result (Unit {0}) R → Bool → R → Result (Unit {0}) R
or_if (Err so_far) holds refusal = Err so_far
or_if (Ok _) true refusal = Err refusal
or_if (Ok _) false refusal = Ok tt

pub record OrIf {R : Type 0} (so_far : Result (Unit {0}) R) (holds : Bool) (refusal : R) (r : Result (Unit {0}) R) : Type 0 where
  pub is : r ≡ or_if so_far holds refusal

-- Behind a refusal nothing is tried; behind a silence the rules are.
unfoldable pub AfterIs : Verdict → List Rule → Verdict → Type 0
AfterIs (Err refusal) rules r = r ≡ Err refusal
AfterIs (Ok _) rules (Ok _) = Accepted rules
AfterIs (Ok _) rules (Err refusal) = Refuses rules refusal

pub record After (so_far : Verdict) (rules : List Rule) (r : Verdict) : Type 0 where
  pub is : AfterIs so_far rules r

-- The same of refusals of any type, by the number and the place that each says. Every refusal has a number above 0.
unfoldable pub AfterOwnIs : {R : Type 0} → (R → ℕ) → (R → ℕ) → Result (Unit {0}) R → List Rule → Result (Unit {0}) R → Type 0
AfterOwnIs number place (Err refusal) rules r = r ≡ Err refusal
AfterOwnIs number place (Ok _) rules (Ok _) = Accepted rules
AfterOwnIs number place (Ok _) rules (Err refusal) = Refused rules (number refusal) (place refusal) × (0 < number refusal)

pub record AfterOwn {R : Type 0} (number place : R → ℕ) (so_far : Result (Unit {0}) R) (rules : List Rule) (r : Result (Unit {0}) R) : Type 0 where
  pub is : AfterOwnIs number place so_far rules r
