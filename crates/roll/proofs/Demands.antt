-- The demands and the inspector's questions, for a roll: for the inspector. Each follows from the promise of `plan_roll` alone, `RollOutcome` (specs/Format.antt), which is proved of
-- the running code for every input; and from planner/proofs/Demands.antt, where each is stated of a list. s are the bytes that `plan_roll` is handed, buffer the row buffer;
-- number, place, blocks and after are what it returns and what the row buffer then holds.
-- Nothing is assumed.
use Prim.Native.Nat.{ℕ, ◌<◌}
use mathlib.Core.Path.{◌≡◌, ap}
use mathlib.Core.Bool.{true}
use mathlib.Core.List.{List}
use mathlib.Core.Logic.{◌⊎◌, ◌↔◌, inl, inr, ⊎_elim}
use Rattle.std.specs.Prelude.{Option, None, Some}
use native.Mathlib.Omega.{arith}
use Rattle.trials.specs.Rules.{Accepted}
use Rattle.trials.proofs.Single.{not_refused}
use Rattle.trials.proofs.Numbers.{Never, never_none, never_other}
use Rattle.fraction.specs.Fraction.{Fraction, ◌≼◌, ◌≺◌, whole, over}
use Rattle.critical.specs.Reports.{Reports, Paces, finish, Keeps, Allowed, Plannable, FirstWithout, steady}
use Rattle.critical.specs.Rows.{Critical}
use Rattle.critical.specs.Cost.{sum_at, Cost, Flatter, bill, NoHigher}
use Rattle.slowest.specs.Slowest.{UpTo, NoSlower}
use Rattle.rules.specs.Offsets.{Input, reports_of, fastest_of, slowest_in, slowest_of}
use Rattle.fraction.specs.declared.Pace.{Pace}
use Rattle.rules.specs.Rules.{plan_rules}
use Rattle.planner.specs.Outcome.{row_at, running_in, WellFormed, RefusedBy, PlanOutcome}
use Rattle.planner.proofs.Outcomes.{by_either}
use Rattle.planner.proofs.Demands as Of
use Rattle.roll.specs.Format.{r_of, t_of, mark, floor_mark, ends_in, file_rules, input_of, RollOutcome}
use Rattle.roll.proofs.Marking.{with_floor, without_floor, plain_mark}
use Rattle.roll.proofs.OneResult as One

module _ (s buffer : List ℕ) where
  -- The list in the roll.
  abbrev list : Input
  list = input_of s buffer

  abbrev reports : Reports
  reports = reports_of list

  abbrev fastest : Fraction
  fastest = fastest_of list

  -- The slowest pace that its floor gives: none, where the mark is AQ.
  abbrev slowest : Option Fraction
  slowest = slowest_of list

  -- A roll marked AQ has no floor,
  pub marked_aq_it_has_no_floor : ends_in s mark ≡ true → slowest ≡ None
  marked_aq_it_has_no_floor e = ap (λ (f : Option Pace). slowest_in f) (without_floor s (plain_mark s e)).1

  -- and one marked AF has the floor R/T.
  pub marked_af_it_has_r_over_t : ends_in s floor_mark ≡ true → slowest ≡ Some (over (r_of s) (t_of s))
  marked_af_it_has_r_over_t e = ap (λ (f : Option Pace). slowest_in f) (with_floor s e).1

  -- ---- Demand 1

  -- Every roll has an answer,
  pub every_roll_is_answered : (number : ℕ) × (place : ℕ) × (blocks : ℕ) × (after : List ℕ) × RollOutcome s buffer number place blocks after
  every_roll_is_answered = One.some_roll s buffer

  -- one only,
  pub by_one_answer_only :
      (number place blocks number' place' blocks' : ℕ) (after after' : List ℕ) →
      RollOutcome s buffer number place blocks after → RollOutcome s buffer number' place' blocks' after' →
      (number ≡ number') × (place ≡ place') × (blocks ≡ blocks') × (after ≡ after')
  by_one_answer_only = One.one_roll s buffer

  module _ (number place blocks : ℕ) (after : List ℕ) (o : RollOutcome s buffer number place blocks after) where
    -- and it is a fault of the file, refused with its number, no blocks and the buffer as it was; or it is the answer for the list in the roll.
    pub a_fault_of_the_file_or_the_answer_for_the_list : RefusedBy (file_rules s) buffer number place blocks after ⊎ (Accepted (file_rules s) × PlanOutcome list number place blocks after)
    a_fault_of_the_file_or_the_answer_for_the_list = ⊎_elim inl (λ p. inr (p.0.accepted, p.1)) (by_either reports fastest buffer (file_rules s) (plan_rules list) number place blocks after o)

    -- Where the file is in order, it is the answer for the list.
    pub the_answer_for_the_list : Accepted (file_rules s) → PlanOutcome list number place blocks after
    the_answer_for_the_list a = ⊎_elim (λ r. absurd (not_refused (file_rules s) a number place r.refused)) (λ p. p.1) a_fault_of_the_file_or_the_answer_for_the_list

    -- ---- Demand 2. A well-formed list with room, in a file that is in order, is refused exactly when no plan in its order exists,
    pub a_well_formed_roll_is_refused_exactly_when_there_is_no_plan : Accepted (file_rules s) → WellFormed list → (0 < number) ↔ (Plannable reports fastest → ⊥)
    a_well_formed_roll_is_refused_exactly_when_there_is_no_plan a w = Of.a_well_formed_list_is_refused_exactly_when_there_is_no_plan list number place blocks after w (the_answer_for_the_list a)

    -- with number 9, at the first report without one.
    pub and_at_the_first_report_without_one : Accepted (file_rules s) → WellFormed list → 0 < number → (number ≡ 9) × FirstWithout reports fastest place
    and_at_the_first_report_without_one a w h = Of.and_at_the_first_report_without_one list number place blocks after w h (the_answer_for_the_list a)

  -- no fault of a file has number 9
  never_nine : Never 9 (file_rules s)
  never_nine = search (never_other, never_none) depth 40

  -- so 0 and 9 are answers for the list
  planned : (place blocks : ℕ) (after : List ℕ) → RollOutcome s buffer 0 place blocks after → PlanOutcome list 0 place blocks after
  planned place blocks after o = ⊎_elim (λ r. absurd (omega (arith, r.numbered))) (λ p. p.1) (a_fault_of_the_file_or_the_answer_for_the_list 0 place blocks after o)

  without_a_plan : (place blocks : ℕ) (after : List ℕ) → RollOutcome s buffer 9 place blocks after → PlanOutcome list 9 place blocks after
  without_a_plan place blocks after o = ⊎_elim (λ r. absurd (never_nine.never place r.refused)) (λ p. p.1) (a_fault_of_the_file_or_the_answer_for_the_list 9 place blocks after o)

  -- An accepted roll yields exactly the blocks of the critical task rules.
  pub an_accepted_roll_has_its_blocks : (place blocks : ℕ) (after : List ℕ) → RollOutcome s buffer 0 place blocks after → Critical reports fastest blocks (row_at after)
  an_accepted_roll_has_its_blocks place blocks after o = Of.an_accepted_list_has_its_blocks list place blocks after (planned place blocks after o)

  -- ---- The inspector's three questions

  -- "Was there a plan that kept every window?" Yes, where `plan_roll` gives number 0: what runs is one.
  pub was_there_a_plan :
      (place blocks : ℕ) (after : List ℕ) → RollOutcome s buffer 0 place blocks after →
      Allowed reports fastest (running_in list blocks after) × NoSlower reports slowest (running_in list blocks after)
  was_there_a_plan place blocks after o = Of.was_there_a_plan list place blocks after (planned place blocks after o)

  -- "When a buoy says there is none, how do you know?" Where it gives number 9, every plan fails that runs no report faster than P/Q; and with all reports at that pace, the report named still comes late.
  pub how_do_you_know_there_is_none :
      (place blocks : ℕ) (after : List ℕ) → RollOutcome s buffer 9 place blocks after →
      ((T : Paces) → Allowed reports fastest T → ⊥) × NoSlower reports slowest (steady fastest) × (whole (reports.deadline place) ≺ finish reports (steady fastest) place)
  how_do_you_know_there_is_none place blocks after o = Of.how_do_you_know_there_is_none list place blocks after (without_a_plan place blocks after o)

  -- "When it hurries, did it need to?" Yes, over the whole list: at no threshold c up to the floor has a plan that keeps the list a smaller sum of operations times shortfall than what runs (demand 3),
  pub did_it_need_to_hurry :
      (place blocks : ℕ) (after : List ℕ) → RollOutcome s buffer 0 place blocks after →
      (rival : Paces) → Keeps reports rival → (c : Fraction) → UpTo slowest c → sum_at reports c (running_in list blocks after) ≼ sum_at reports c rival
  did_it_need_to_hurry place blocks after o = Of.did_it_need_to_hurry list place blocks after (planned place blocks after o)

  -- and no cost that falls in ever flatter straight pieces can be lowered by one that is no slower than the floor.
  pub no_cost_can_be_lowered :
      (place blocks : ℕ) (after : List ℕ) → RollOutcome s buffer 0 place blocks after →
      (rival : Paces) → Keeps reports rival → NoSlower reports slowest rival → (c : Cost) → Flatter c.pieces c.rest →
      NoHigher (bill reports c (running_in list blocks after)) (bill reports c rival)
  no_cost_can_be_lowered place blocks after o = Of.no_cost_can_be_lowered list place blocks after (planned place blocks after o)
