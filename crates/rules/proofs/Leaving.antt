-- What the rules leave, where none of them is given: found in their list by search, so that no proof counts a rule's place.
-- Assumes nothing.
use Prim.Native.Nat.{ℕ, ◌*◌, ◌/◌, ◌≤◌, ◌<◌}
use mathlib.Core.Path.{sym}
use mathlib.Core.List.{List}
use mathlib.Core.Logic.{inl, inr}
use native.Mathlib.Omega.{arith}
use native.Mathlib.Decide.{ℕ_discrete}
use lib.Dec.{ltb}
use lib.ListN.{length, get_or}
use Rattle.answers.specs.Numbers.{width}
use Rattle.trials.specs.Rules.{Outside}
use Rattle.trials.specs.Tries.{Tells}
use Rattle.trials.proofs.Trying.{tells_as, tells_below}
use Rattle.trials.proofs.Passing.{Passed, Quiet, finding, unfaulted, untrue}
use Rattle.fraction.proofs.Scale.{cases}
use Rattle.critical.specs.Reports.{Reports, list_of, Working}
use Rattle.rules.specs.Rules.{lengths_rule, many_rule, short_rule, pace_rule, count_rules, operations_rule, arrival_rule, deadline_rule, form_rules}
use Rattle.rules.specs.Leaves.{Even, Sized, Paced, Fair}
use Rattle.rules.specs.declared.Roll.{Roll}
use Rattle.std.specs.Prelude.{Option}
use Rattle.fraction.specs.declared.Pace.{Pace}

pub within_range : (low high x : ℕ) → (Outside low high x → ⊥) → (low ≤ x) × (x ≤ high)
within_range low high x h = (cases x low (λ l. absurd (h (inl l))) (λ g. g), cases high x (λ l. absurd (h (inr l))) (λ g. g))

-- the test of rule 3
pub tells_short : (n room : ℕ) → Tells (room < width * n) (ltb (room / width) n)
tells_short n room = tells_as (λ (h : room / width < n). omega arith) (λ (h : room < width * n). omega arith) tells_below

-- ---- each rule by itself
pub even_lists : (xs ys ws : List ℕ) → Quiet (lengths_rule (length xs) (length ys) (length ws)) → Even xs ys ws
even_lists xs ys ws q = record {
  deadlines_long = elim (ℕ_discrete (length ys) (length xs)) [ yes e ↦ e | no h ↦ absurd (untrue q (inl (λ e. h (sym e)))) ];
  operations_long = elim (ℕ_discrete (length ws) (length xs)) [ yes e ↦ e | no h ↦ absurd (untrue q (inr (λ e. h (sym e)))) ];
}

pub few_reports : {n : ℕ} → Quiet (many_rule n) → n ≤ 1024
few_reports {n} q = cases 1024 n (λ l. absurd (untrue q l)) (λ g. g)

pub enough_room : (n room : ℕ) → Quiet (short_rule n room) → width * n ≤ room
enough_room n room q = cases room (width * n) (λ l. absurd (untrue q l)) (λ g. g)

pub good_pace : {terms : Roll} → Quiet (pace_rule terms) → Paced terms
good_pace {terms} q =
    let p = within_range 1 65535 terms.p (λ o. untrue q (inl o)) in
    let q = within_range 1 65535 terms.q (λ o. untrue q (inr o)) in
    record { p_some = p.0; p_most = p.1; q_some = q.0; q_most = q.1 }

pub working : (ℓ : Reports) → Quiet (operations_rule ℓ) → Working ℓ
working ℓ q i h = (within_range 1 65535 (ℓ.operations i) (unfaulted q i h)).0

-- ---- rules 1 to 3, of three lists and a buffer
module _ (xs ys ws before : List ℕ) (terms : Roll) (floor : Option Pace) (p : Passed (count_rules (length xs) (length ys) (length ws) terms floor (length before))) where
  pub sized_lists : Sized xs ys ws before
  sized_lists =
      let lengths : Quiet (lengths_rule (length xs) (length ys) (length ws)) = search finding depth 40 in
      let many : Quiet (many_rule (length xs)) = search finding depth 40 in
      let short : Quiet (short_rule (length xs) (length before)) = search finding depth 40 in
      record {
        even = even_lists xs ys ws lengths;
        few = few_reports many;
        room = enough_room (length xs) (length before) short;
      }

  pub good_terms : Paced terms
  good_terms = let pace : Quiet (pace_rule terms) = search finding depth 40 in good_pace pace

-- ---- and rules 5 to 7
module _ (xs ys ws before : List ℕ) (sized : Sized xs ys ws before) (p : Passed (form_rules (list_of xs ys ws))) where
  abbrev ℓ : Reports
  ℓ = list_of xs ys ws

  pub fair_lists : Fair xs ys ws
  fair_lists =
      let work : Quiet (operations_rule ℓ) = search finding depth 40 in
      let arrive : Quiet (arrival_rule ℓ) = search finding depth 40 in
      let due : Quiet (deadline_rule ℓ) = search finding depth 40 in
      record {
        even = sized.even;
        few = sized.few;
        some = λ i h. (within_range 1 65535 (get_or ws i 0) (unfaulted work i h)).0;
        work = λ i h. (within_range 1 65535 (get_or ws i 0) (unfaulted work i h)).1;
        arrive = λ i h. cases 2147483647 (get_or xs i 0) (λ l. absurd (unfaulted arrive i h l)) (λ g. g);
        due = λ i h. cases 2147483647 (get_or ys i 0) (λ l. absurd (unfaulted due i h l)) (λ g. g);
      }
