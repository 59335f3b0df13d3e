-- What a list of reports and a plan are (01, "What a plan is"). Times are offsets, in ticks; paces and finishes are exact fractions.
-- Nothing here asks that arrivals or deadlines are in any order.
-- Assumes nothing.
use Rattle.std.specs.Prelude.{ℕ, zero, suc, ◌<◌, List, length, get_or}
use Rattle.fraction.specs.Fraction.{Fraction, ◌≼◌, whole, plus, times, later}

-- A list of reports: how many, and the arrival, the deadline and the operations of each, counted from 0.
pub record Reports : Type 0 where
  pub count : ℕ
  pub arrival : ℕ → ℕ
  pub deadline : ℕ → ℕ
  pub operations : ℕ → ℕ

-- The list of three lists of numbers: arrivals, deadlines and operations, report by report.
abbrev pub list_of : List ℕ → List ℕ → List ℕ → Reports
list_of arrivals deadlines operations = record {
  count = length arrivals;
  arrival = λ i. get_or arrivals i 0;
  deadline = λ i. get_or deadlines i 0;
  operations = λ i. get_or operations i 0;
}

-- The first n reports by themselves.
abbrev pub first_of : ℕ → Reports → Reports
first_of n ℓ = record { count = n; arrival = ℓ.arrival; deadline = ℓ.deadline; operations = ℓ.operations }

-- Every report has something to do.
abbrev pub Working : Reports → Type 0
Working ℓ = (i : ℕ) → i < ℓ.count → 0 < ℓ.operations i

-- A fraction is positive.
abbrev pub Positive : Fraction → Type 0
Positive f = 0 < f.num

-- Paces, in ticks per operation, for the reports: a larger pace is slower.
abbrev pub Paces : Type 0
Paces = ℕ → Fraction

-- Every report at one pace.
abbrev pub steady : Fraction → Paces
steady f i = f

-- Report i starts at the later of its arrival and the finish of report i − 1; the first starts at its arrival.
unfoldable pub start : Reports → Paces → ℕ → Fraction
start ℓ T zero = whole (ℓ.arrival zero)
start ℓ T (suc i) = later (whole (ℓ.arrival (suc i))) (plus (start ℓ T i) (times (ℓ.operations i) (T i)))

-- Finish = start + operations times pace.
abbrev pub finish : Reports → Paces → ℕ → Fraction
finish ℓ T i = plus (start ℓ T i) (times (ℓ.operations i) (T i))

-- A plan gives each report a positive pace. It keeps the list if every finish is at or before its deadline.
pub record Keeps (ℓ : Reports) (T : Paces) : Type 0 where
  pub positive : (i : ℕ) → i < ℓ.count → Positive (T i)
  pub in_time : (i : ℕ) → i < ℓ.count → finish ℓ T i ≼ whole (ℓ.deadline i)

-- It is allowed if also no pace is below the fastest.
pub record Allowed (ℓ : Reports) (fastest : Fraction) (T : Paces) : Type 0 where
  pub keeps : Keeps ℓ T
  pub no_faster : (i : ℕ) → i < ℓ.count → fastest ≼ T i

-- Some allowed plan exists.
abbrev pub Plannable : Reports → Fraction → Type 0
Plannable ℓ fastest = (T : Paces) × Allowed ℓ fastest T

-- Report i is the first without a plan: reports 0 to i by themselves have no allowed plan, and i is the least such.
pub record FirstWithout (ℓ : Reports) (fastest : Fraction) (i : ℕ) : Type 0 where
  pub on_list : i < ℓ.count
  pub without : Plannable (first_of (suc i) ℓ) fastest → ⊥
  pub least : (j : ℕ) → j < i → Plannable (first_of (suc j) ℓ) fastest
