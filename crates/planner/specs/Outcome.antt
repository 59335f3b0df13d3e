-- What the planner gives (01, "What the planner takes and gives").
-- Assumes nothing.
use Rattle.std.specs.Prelude.{◌≡◌, ℕ, zero, suc, ◌+◌, ◌*◌, ◌<◌, ◌≤◌, List, length, slice_index}
use Rattle.fraction.specs.Fraction.{Fraction}
use Rattle.critical.specs.Reports.{Reports, Paces}
use Rattle.critical.specs.Rows.{Row, plan_of, Critical}
use Rattle.slowest.specs.Slowest.{floored}
use Rattle.rules.specs.Offsets.{Input, reports_of, fastest_of, slowest_of}
use Rattle.answers.specs.Numbers.{width}
use Rattle.trials.specs.Rules.{Rule, Refused, Accepted}
use Rattle.rules.specs.Rules.{earlier_rules, plan_rules}

-- Number j of row k of a buffer.
abbrev pub number_at : List ℕ → ℕ → ℕ → ℕ
number_at buffer k j = slice_index buffer (width * k + j)

-- Row k of a buffer.
abbrev pub row_at : List ℕ → ℕ → Row
row_at buffer k = record {
  first = number_at buffer k 0;
  last = number_at buffer k 1;
  start = number_at buffer k 2;
  end = number_at buffer k 3;
  operations = number_at buffer k 4;
}

-- Rows stand at the front of the buffer in order; the numbers behind them stay as they were.
pub record Written (ℓ : Reports) (fastest : Fraction) (before : List ℕ) (blocks : ℕ) (after : List ℕ) : Type 0 where
  pub rows : Critical ℓ fastest blocks (row_at after)
  pub as_long : length after ≡ length before
  pub behind : (i : ℕ) → width * blocks ≤ i → slice_index after i ≡ slice_index before i

-- What comes back, and what the buffer then holds: number 0 and place 0 with the rows written; or a refusal, with block count 0 and the buffer untouched.
unfoldable pub Outcome : List Rule → Reports → Fraction → List ℕ → ℕ → ℕ → ℕ → List ℕ → Type 0
Outcome rules ℓ fastest before zero place blocks after = Accepted rules × (place ≡ 0) × Written ℓ fastest before blocks after
Outcome rules ℓ fastest before (suc number) place blocks after = Refused rules (suc number) place × (blocks ≡ 0) × (after ≡ before)

-- The outcome of an input, by all the rules.
abbrev pub PlanOutcome : Input → ℕ → ℕ → ℕ → List ℕ → Type 0
PlanOutcome x number place blocks after =
    Outcome (plan_rules x) (reports_of x) (fastest_of x) x.buffer number place blocks after

-- ---- words in which the demands are stated
-- The plan that the rows in a buffer stand for: each report at its row's pace.
abbrev pub plan_in : ℕ → List ℕ → Paces
plan_in blocks after = plan_of blocks (row_at after)

-- What runs: each report at the faster of its row's pace and the slowest pace, where there is one. Start and finish are those of every plan.
abbrev pub running_in : Input → ℕ → List ℕ → Paces
running_in x blocks after = floored (slowest_of x) (plan_in blocks after)

-- A well-formed list with room: none of the rules before rule 9 is given.
abbrev pub WellFormed : Input → Type 0
WellFormed x = Accepted (earlier_rules x)

-- A refusal by some of the rules: it has a number, there are no blocks, and the buffer is as it was.
pub record RefusedBy (rules : List Rule) (before : List ℕ) (number place blocks : ℕ) (after : List ℕ) : Type 0 where
  pub numbered : 0 < number
  pub refused : Refused rules number place
  pub no_blocks : blocks ≡ 0
  pub untouched : after ≡ before
