-- Wrong planners, held against the promise of `plan`: each answer below is one that `PlanOutcome` does not allow. Right answers come first; any other answer of
-- the same input is then shut out, since the promise allows one result only.
-- Assumes nothing.
use Rattle.std.proofs.Common.{◌≡◌, ℕ, ◌<◌, List, [], ◌∷◌, get_or, replicate, ap, arith}
use Rattle.std.specs.Prelude.{None}
use Rattle.answers.specs.Numbers.{number}
use Rattle.answers.specs.declared.Refusal.{Refusal}
use Rattle.answers.proofs.Replies.{numbered}
use Rattle.critical.proofs.Table as Definitions
use Rattle.rules.specs.Offsets.{Input}
use Rattle.planner.specs.Outcome.{PlanOutcome}
use Rattle.planner.proofs.OneResult.{one_result}
use Rattle.planner.proofs.Table.{AllGiven, starred, starred_given, given_from}
use Rattle.planner.proofs.Demands.{a_refusal_writes_nothing}

-- A planner whose refusal touches the buffer.
pub no_refusal_touches_the_buffer :
    (x : Input) (number place blocks : ℕ) (after : List ℕ) →
    0 < number → (after ≡ x.buffer → ⊥) → PlanOutcome x number place blocks after → ⊥
no_refusal_touches_the_buffer x number place blocks after h touched o = touched (a_refusal_writes_nothing x number place blocks after h o).2

-- A planner that refuses without a number. For an empty list 01's three numbers would let it pass, since they are those of a plan without blocks.
pub not_refused_without_a_number : (refusal : Refusal) → number refusal.fault ≡ 0 → ⊥
not_refused_without_a_number refusal e = omega (arith, e, numbered refusal.fault)

-- Where one answer is right, another is not.
module _ (x : Input) (number place blocks : ℕ) (after : List ℕ) (right : PlanOutcome x number place blocks after) where
  pub another_number : (n p b : ℕ) (a : List ℕ) → (number ≡ n → ⊥) → PlanOutcome x n p b a → ⊥
  another_number n p b a h o = h (one_result x number place blocks n p b after a right o).0

  pub another_block_count : (n p b : ℕ) (a : List ℕ) → (blocks ≡ b → ⊥) → PlanOutcome x n p b a → ⊥
  another_block_count n p b a h o = h (one_result x number place blocks n p b after a right o).2

  pub another_buffer : (n p b : ℕ) (a : List ℕ) → (after ≡ a → ⊥) → PlanOutcome x n p b a → ⊥
  another_buffer n p b a h o = h (one_result x number place blocks n p b after a right o).3

-- ---- 01's last starred row, through the promise: three reports, three blocks
pub crowded : Input
crowded = record {
  arrivals = 0 ∷ 0 ∷ 12 ∷ [];
  deadlines = 4 ∷ 20 ∷ 16 ∷ [];
  operations = 2 ∷ 2 ∷ 2 ∷ [];
  terms = record { reference = 0; p = 1; q = 1 };
  floor = None;
  buffer = replicate 17 7;
}

pub crowded_rows : List ℕ
crowded_rows = 0 ∷ 0 ∷ 0 ∷ 4 ∷ 2 ∷ 1 ∷ 1 ∷ 4 ∷ 12 ∷ 2 ∷ 2 ∷ 2 ∷ 12 ∷ 16 ∷ 2 ∷ 7 ∷ 7 ∷ []

pub crowded_right : PlanOutcome crowded 0 0 3 crowded_rows
unfolding crowded crowded_rows starred Definitions.starred AllGiven
crowded_right = (given_from 10 starred starred_given).0

-- A planner that refuses everything: no plan, though there is one.
pub not_refused : PlanOutcome crowded 9 0 0 crowded.buffer → ⊥
not_refused = another_number crowded 0 0 3 crowded_rows crowded_right 9 0 0 crowded.buffer (λ e. omega arith)

-- A planner that writes nothing.
pub not_left_blank : PlanOutcome crowded 0 0 3 crowded.buffer → ⊥
unfolding crowded crowded_rows
not_left_blank = another_buffer crowded 0 0 3 crowded_rows crowded_right 0 0 3 crowded.buffer (λ e. let z : ◌≡◌ {A = ℕ} 0 7 = ap (λ (l : List ℕ). get_or l 0 0) e in omega arith)

-- A planner that has one fixed plan: the one report (0, 0, 0, 10, 4) of another row of the table.
pub not_a_fixed_plan : (a : List ℕ) → PlanOutcome crowded 0 0 1 a → ⊥
not_a_fixed_plan a = another_block_count crowded 0 0 3 crowded_rows crowded_right 0 0 1 a (λ e. omega arith)

-- One that finds the first block and then lumps the rest together, in two blocks; and one that runs everything at P/Q, in two blocks, (0, 1, 0, 4, 4) and (2, 2, 12, 14, 2).
pub not_two_blocks : (a : List ℕ) → PlanOutcome crowded 0 0 2 a → ⊥
not_two_blocks a = another_block_count crowded 0 0 3 crowded_rows crowded_right 0 0 2 a (λ e. omega arith)

-- One that invents a block count.
pub not_an_invented_count : PlanOutcome crowded 0 0 4 crowded_rows → ⊥
not_an_invented_count = another_block_count crowded 0 0 3 crowded_rows crowded_right 0 0 4 crowded_rows (λ e. omega arith)
