-- The demands, as theorems about `plan`: for the inspector. Each follows from the promise of `plan` alone, `PlanOutcome` (specs/Outcome.antt), which is proved of
-- the running code for every input. x is what `plan` is handed; number, place, blocks and after are what it returns and what the row buffer then holds. Each reads with a floor and without: `running_in x blocks after` are the paces
-- that run, each the faster of its row's pace and R/T; without a floor they are the rows' paces, every pace is no slower than the floor, and thresholds go up without end.
-- Nothing is assumed. That the code ends, and that nothing it does is undefined, is not stated here: the language's check of every function shows it (a measure falls at each turn of a loop; every index, slice, sum and product
-- is shown to be in range). In the verdict of that check `logic-built=trusted` says that the kit's own logic was taken as the kit's makers checked it, and `libraries-built=trusted` that each crate below was taken as its own check
-- left it: `rt ci` makes those checks first, in the same run or in an earlier one that passed the same files on that machine, for all but the kit's libraries.
use Rattle.std.proofs.Common.{◌≡◌, ℕ, zero, suc, ◌<◌, ◌↔◌, List, [], ◌∷◌, inl, inr, arith}
use Rattle.trials.specs.Rules.{Refused}
use Rattle.trials.proofs.Passing.{Passed, Quiet, finding, first_part}
use Rattle.trials.proofs.Numbers.{refused_behind, by_another_rule, others}
use Rattle.fraction.specs.Fraction.{Fraction, ◌≼◌, ◌≺◌, whole}
use Rattle.critical.specs.Reports.{Reports, Paces, Positive, finish, Keeps, Allowed, Plannable, FirstWithout, steady}
use Rattle.critical.specs.Rows.{Row, Critical}
use Rattle.critical.specs.Cost.{sum_at, Cost, Flatter, bill, NoHigher}
use Rattle.critical.proofs.Theorems.{one_list_of_rows, first_failure, not_both}
use Rattle.slowest.specs.Slowest.{UpTo, NoSlower, PlannableWithin}
use Rattle.slowest.proofs.Theorems.{runs_within, runs_allowed, plan_within, runs_least_sum, runs_least_sum_above, runs_least_cost}
use Rattle.rules.specs.Offsets.{Input, reports_of, fastest_of, slowest_of}
use Rattle.std.specs.Prelude.{Option}
use Rattle.fraction.specs.declared.Pace.{Pace}
use Rattle.rules.specs.Rules.{pace_rule, below_rule, earlier_rules, plan_rule, plan_rules}
use Rattle.planner.specs.Outcome.{row_at, plan_in, running_in, WellFormed, Outcome, PlanOutcome}
use Rattle.rules.proofs.Leaving.{good_pace}
use Rattle.rules.proofs.Floors.{good_floor}
use Rattle.rules.proofs.Table.{works}
use Rattle.planner.proofs.Outcomes.{positive}
use Rattle.planner.proofs.OneResult as One
use Rattle.planner.proofs.SomeResult as Some

-- ---- Demand 1. "Every input gets a plan or one numbered refusal; nothing is undefined."

-- Every input has a result,
pub every_input_is_answered : (x : Input) → (number : ℕ) × (place : ℕ) × (blocks : ℕ) × (after : List ℕ) × PlanOutcome x number place blocks after
every_input_is_answered = Some.some_result

-- and one only.
pub by_one_answer_only :
    (x : Input) (number place blocks number' place' blocks' : ℕ) (after after' : List ℕ) →
    PlanOutcome x number place blocks after → PlanOutcome x number' place' blocks' after' →
    (number ≡ number') × (place ≡ place') × (blocks ≡ blocks') × (after ≡ after')
by_one_answer_only = One.one_result

-- "A refusal returns its number, the report it concerns and block count 0, and writes to no buffer."
pub a_refusal_writes_nothing :
    (x : Input) (number place blocks : ℕ) (after : List ℕ) →
    0 < number → PlanOutcome x number place blocks after →
    Refused (plan_rules x) number place × (blocks ≡ 0) × (after ≡ x.buffer)
unfolding Outcome
a_refusal_writes_nothing x zero place blocks after h o = absurd (omega arith)
a_refusal_writes_nothing x (suc k) place blocks after h o = o

-- ---- Demand 2. "An accepted list yields exactly the blocks of the critical task rules."

-- The rows are the blocks of the plan wanted, with 01's properties 1 to 4,
pub an_accepted_list_has_its_blocks :
    (x : Input) (place blocks : ℕ) (after : List ℕ) →
    PlanOutcome x 0 place blocks after →
    Critical (reports_of x) (fastest_of x) blocks (row_at after)
unfolding Outcome
an_accepted_list_has_its_blocks x place blocks after o = o.2.rows

-- and no other rows are.
pub and_no_others :
    (x : Input) (place blocks : ℕ) (after : List ℕ) (fastest : Fraction) (m : ℕ) (rows : ℕ → Row) →
    PlanOutcome x 0 place blocks after → Critical (reports_of x) fastest m rows →
    (blocks ≡ m) × ((k : ℕ) → k < blocks → row_at after k ≡ rows k)
unfolding Outcome
and_no_others x place blocks after fastest m rows o c =
    one_list_of_rows (reports_of x) (fastest_of x) fastest blocks m (row_at after) rows (works x (record { accepted = o.0 })) o.2.rows c

-- The floor does not move them: with another floor, or with none, an accepted list has the same rows.
pub whatever_the_floor :
    (x : Input) (floor : Option Pace) (place blocks place' blocks' : ℕ) (after after' : List ℕ) →
    PlanOutcome x 0 place blocks after →
    PlanOutcome (record { arrivals = x.arrivals; deadlines = x.deadlines; operations = x.operations; terms = x.terms; floor = floor; buffer = x.buffer }) 0 place' blocks' after' →
    (blocks ≡ blocks') × (after ≡ after')
unfolding Outcome
whatever_the_floor x floor place blocks place' blocks' after after' o o' =
    One.one_buffer (reports_of x) (fastest_of x) (works x (record { accepted = o.0 })) x.buffer blocks blocks' after after' o.2 o'.2

-- where rule 4 is silent, P/Q is positive
pace_positive : (x : Input) → Passed (earlier_rules x) → Positive (fastest_of x)
pace_positive x p = let pace : Quiet (pace_rule x.terms) = search finding depth 40 in positive (reports_of x) x.terms (good_pace pace) x.buffer

-- where rule 17 is, R/T is not below it
floor_above : (x : Input) → Passed (earlier_rules x) → UpTo (slowest_of x) (fastest_of x)
floor_above x p = let below : Quiet (below_rule x.floor x.terms) = search finding depth 40 in good_floor x.floor x.terms below

-- none of the rules before the last refuses an accepted list
earlier : (x : Input) (place blocks : ℕ) (after : List ℕ) → PlanOutcome x 0 place blocks after → Passed (earlier_rules x)
unfolding Outcome
earlier x place blocks after o = first_part (earlier_rules x) (plan_rule (reports_of x) (fastest_of x) ∷ []) (record { accepted = o.0 })

-- the last rule is rule 9
refused_by_nine : (ℓ : Reports) (f : Fraction) (number place : ℕ) → Refused (plan_rule ℓ f ∷ []) number place → (number ≡ 9) × FirstWithout ℓ f place
unfolding Refused
refused_by_nine ℓ f number place (inl g) = g
refused_by_nine ℓ f number place (inr r) = absurd r.1

-- "A well-formed list with room is refused exactly when no plan in its order exists."
pub a_well_formed_list_is_refused_exactly_when_there_is_no_plan :
    (x : Input) (number place blocks : ℕ) (after : List ℕ) →
    WellFormed x → PlanOutcome x number place blocks after →
    (0 < number) ↔ (Plannable (reports_of x) (fastest_of x) → ⊥)
unfolding Outcome
a_well_formed_list_is_refused_exactly_when_there_is_no_plan x zero place blocks after w o =
    (λ h. absurd (omega arith), λ none. absurd (none (plan_in blocks after, o.2.rows.plan.allowed)))
a_well_formed_list_is_refused_exactly_when_there_is_no_plan x (suc k) place blocks after w o =
    let nine = refused_by_nine (reports_of x) (fastest_of x) (suc k) place (refused_behind (earlier_rules x) (plan_rule (reports_of x) (fastest_of x) ∷ []) (suc k) place w o.0) in
    (λ h plan. not_both (reports_of x) (fastest_of x) place plan nine.1, λ none. omega arith)

-- The refusal is then number 9, and its place the least i such that reports 0 to i by themselves have no allowed plan.
pub and_at_the_first_report_without_one :
    (x : Input) (number place blocks : ℕ) (after : List ℕ) →
    WellFormed x → 0 < number → PlanOutcome x number place blocks after →
    (number ≡ 9) × FirstWithout (reports_of x) (fastest_of x) place
unfolding Outcome
and_at_the_first_report_without_one x zero place blocks after w h o = absurd (omega arith)
and_at_the_first_report_without_one x (suc k) place blocks after w h o =
    refused_by_nine (reports_of x) (fastest_of x) (suc k) place (refused_behind (earlier_rules x) (plan_rule (reports_of x) (fastest_of x) ∷ []) (suc k) place w o.0)

-- With a floor that is the same question: there is a plan exactly when there is one that is no slower than R/T.
pub and_there_is_one_exactly_when_there_is_one_no_slower_than_the_floor :
    (x : Input) → WellFormed x →
    Plannable (reports_of x) (fastest_of x) ↔ PlannableWithin (reports_of x) (fastest_of x) (slowest_of x)
and_there_is_one_exactly_when_there_is_one_no_slower_than_the_floor x w =
    let p : Passed (earlier_rules x) = record { accepted = w } in
    plan_within (reports_of x) (fastest_of x) (slowest_of x) (floor_above x p) (pace_positive x p)

-- ---- The inspector's three questions

-- "Was there a plan that kept every window?" Yes, where the planner gives one: as it runs, every report finishes at or before its deadline, none runs faster than P/Q, and none slower than R/T.
-- (That it gives one wherever there is one is `a_well_formed_list_is_refused_exactly_when_there_is_no_plan`, above.)
pub was_there_a_plan :
    (x : Input) (place blocks : ℕ) (after : List ℕ) →
    PlanOutcome x 0 place blocks after →
    Allowed (reports_of x) (fastest_of x) (running_in x blocks after) × NoSlower (reports_of x) (slowest_of x) (running_in x blocks after)
was_there_a_plan x place blocks after o =
    let p = earlier x place blocks after o in
    (runs_allowed (reports_of x) (fastest_of x) (slowest_of x) (plan_in blocks after) (floor_above x p) (pace_positive x p) (an_accepted_list_has_its_blocks x place blocks after o).plan.allowed, runs_within (reports_of x) (slowest_of x) (plan_in blocks after))

-- "When a buoy says there is none, how do you know?" Every plan fails that runs no report faster than P/Q, however slow it runs them; and the reason can be checked by hand: with all reports at the fastest pace, which is
-- not slower than R/T, the report named still comes late.
pub how_do_you_know_there_is_none :
    (x : Input) (place blocks : ℕ) (after : List ℕ) →
    PlanOutcome x 9 place blocks after →
    ((T : Paces) → Allowed (reports_of x) (fastest_of x) T → ⊥)
    × NoSlower (reports_of x) (slowest_of x) (steady (fastest_of x)) × (whole ((reports_of x).deadline place) ≺ finish (reports_of x) (steady (fastest_of x)) place)
unfolding Outcome
how_do_you_know_there_is_none x place blocks after o =
    let split = by_another_rule (earlier_rules x) (plan_rule (reports_of x) (fastest_of x) ∷ []) place (search others depth 40) o.0 in
    let nine = (refused_by_nine (reports_of x) (fastest_of x) 9 place split.1).1 in (
      λ T a. not_both (reports_of x) (fastest_of x) place (T, a) nine,
      record { no_slower = λ i h. floor_above x split.0 },
      ((first_failure (reports_of x) (fastest_of x) place (pace_positive x split.0)).0 nine).2,
    )

-- "When it hurries, did it need to?" Yes, over the whole list: whatever pace c up to R/T one measures by, no plan that keeps the list has a smaller sum of operations times shortfall than what runs, not even one that runs faster
-- than P/Q or slower than R/T.
pub did_it_need_to_hurry :
    (x : Input) (place blocks : ℕ) (after : List ℕ) →
    PlanOutcome x 0 place blocks after →
    (rival : Paces) → Keeps (reports_of x) rival → (c : Fraction) → UpTo (slowest_of x) c →
    sum_at (reports_of x) c (running_in x blocks after) ≼ sum_at (reports_of x) c rival
did_it_need_to_hurry x place blocks after o rival keeps c =
    runs_least_sum (reports_of x) (fastest_of x) (slowest_of x) (plan_in blocks after) rival c (an_accepted_list_has_its_blocks x place blocks after o).plan keeps

-- ---- Demand 3. "At every threshold pace the sum of operations times shortfall is least among all plans that keep the list." That is the last theorem.
-- Against rivals that are no slower than R/T it holds at the thresholds above R/T too. (For slower ones it need not: `slower_rival_below`, slowest/proofs/Theorems.antt, is a list where it does not.)
pub and_at_every_threshold_against_rivals_no_slower_than_the_floor :
    (x : Input) (place blocks : ℕ) (after : List ℕ) →
    PlanOutcome x 0 place blocks after →
    (rival : Paces) → Keeps (reports_of x) rival → NoSlower (reports_of x) (slowest_of x) rival → (c : Fraction) →
    sum_at (reports_of x) c (running_in x blocks after) ≼ sum_at (reports_of x) c rival
and_at_every_threshold_against_rivals_no_slower_than_the_floor x place blocks after o rival keeps within c =
    runs_least_sum_above (reports_of x) (fastest_of x) (slowest_of x) (plan_in blocks after) rival c (an_accepted_list_has_its_blocks x place blocks after o).plan keeps within

-- "So no cost that falls in ever flatter straight pieces can be lowered", by no such rival.
pub no_cost_can_be_lowered :
    (x : Input) (place blocks : ℕ) (after : List ℕ) →
    PlanOutcome x 0 place blocks after →
    (rival : Paces) → Keeps (reports_of x) rival → NoSlower (reports_of x) (slowest_of x) rival → (c : Cost) → Flatter c.pieces c.rest →
    NoHigher (bill (reports_of x) c (running_in x blocks after)) (bill (reports_of x) c rival)
no_cost_can_be_lowered x place blocks after o rival keeps within c flat =
    runs_least_cost (reports_of x) (fastest_of x) (slowest_of x) (plan_in blocks after) rival c flat (an_accepted_list_has_its_blocks x place blocks after o).plan keeps within
