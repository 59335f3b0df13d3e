-- Blocks, rows, and the plan wanted (01, "Blocks").
-- Assumes nothing.
use Rattle.std.specs.Prelude.{ℕ, zero, suc, ◌+◌, ◌-◌, ◌≤◌, ◌<◌, ◌≡◌, cond, leb}
use Rattle.fraction.specs.Fraction.{Fraction, ◌≼◌, ◌≺◌, ◌≈◌, whole, over}
use Rattle.critical.specs.Reports.{Reports, Paces, start, finish, Allowed}

-- No idle time between report i and the next: it ends at or after the next arrival.
abbrev pub Busy : Reports → Paces → ℕ → Type 0
Busy ℓ T i = whole (ℓ.arrival (suc i)) ≼ finish ℓ T i

-- The plan wanted is the allowed plan with 01's properties 1 to 4.
pub record CriticalPlan (ℓ : Reports) (fastest : Fraction) (T : Paces) : Type 0 where
  pub allowed : Allowed ℓ fastest T
  -- 1. If arrival of i+1 is later than deadline of i, report i ends at its deadline (so there is idle time).
  pub one_idle : (i : ℕ) → suc i < ℓ.count → ℓ.deadline i < ℓ.arrival (suc i) → finish ℓ T i ≈ whole (ℓ.deadline i)
  -- Otherwise report i ends at or after the arrival of i+1 and there is none.
  pub one_busy : (i : ℕ) → suc i < ℓ.count → ℓ.arrival (suc i) ≤ ℓ.deadline i → Busy ℓ T i
  -- 2. Where pace rises from i to i+1 without idle time, i ends at its deadline.
  pub two : (i : ℕ) → suc i < ℓ.count → Busy ℓ T i → T i ≺ T (suc i) → finish ℓ T i ≈ whole (ℓ.deadline i)
  -- 3. Where pace falls from i to i+1 without idle time, i ends at the arrival of i+1.
  pub three : (i : ℕ) → suc i < ℓ.count → Busy ℓ T i → T (suc i) ≺ T i → finish ℓ T i ≈ whole (ℓ.arrival (suc i))
  -- 4. The last report ends at its deadline.
  pub four : (i : ℕ) → suc i ≡ ℓ.count → finish ℓ T i ≈ whole (ℓ.deadline i)

-- A row is five numbers: first report, last report, start offset, end offset, operations.
pub record Row : Type 0 where
  pub first : ℕ
  pub last : ℕ
  pub start : ℕ
  pub end : ℕ
  pub operations : ℕ

-- A row's pace is (end − start) / operations.
abbrev pub pace : Row → Fraction
pace r = over (r.end - r.start) r.operations

-- The row, of the first m, that holds report i: the last one whose first report is not behind i.
unfoldable pub holder : (ℕ → Row) → ℕ → ℕ → ℕ
holder rows zero i = zero
holder rows (suc m) i = cond (leb (rows m).first i) m (holder rows m i)

-- The plan of m rows: each report has the pace of its row.
abbrev pub plan_of : ℕ → (ℕ → Row) → Paces
plan_of m rows i = pace (rows (holder rows m i))

-- The first report behind the first k rows.
unfoldable pub behind : (ℕ → Row) → ℕ → ℕ
behind rows zero = zero
behind rows (suc k) = suc (rows k).last

-- The operations of the first n reports together.
unfoldable pub sum : (ℕ → ℕ) → ℕ → ℕ
sum w zero = zero
sum w (suc n) = sum w n + w n

-- m rows are the blocks of the plan wanted for the list.
pub record Critical (ℓ : Reports) (fastest : Fraction) (m : ℕ) (rows : ℕ → Row) : Type 0 where
  -- The rows cover the reports in order, without gap.
  pub follows : (k : ℕ) → k < m → (rows k).first ≡ behind rows k
  pub holds : (k : ℕ) → k < m → (rows k).first ≤ (rows k).last
  pub covers : behind rows m ≡ ℓ.count
  -- A row's operations are those of its reports.
  pub works : (k : ℕ) → k < m → sum ℓ.operations (rows k).first + (rows k).operations ≡ sum ℓ.operations (suc (rows k).last)
  -- Its first report starts at its start, and its last finishes at its end (so there is no idle time between its reports).
  pub starts : (k : ℕ) → k < m → start ℓ (plan_of m rows) (rows k).first ≈ whole (rows k).start
  pub ends : (k : ℕ) → k < m → finish ℓ (plan_of m rows) (rows k).last ≈ whole (rows k).end
  -- The plan of the rows is the plan wanted.
  pub plan : CriticalPlan ℓ fastest (plan_of m rows)
  -- A block is a longest run: two rows without idle time between them differ in pace.
  pub longest : (k : ℕ) → suc k < m → Busy ℓ (plan_of m rows) (rows k).last → pace (rows k) ≈ pace (rows (suc k)) → ⊥
