-- What the functions inside this crate ask of each other and tell each other. No promise of the entry point cites it.
-- Assumes nothing.
use Rattle.std.specs.Prelude.{◌≡◌, ℕ, suc, ◌+◌, ◌-◌, ◌*◌, ◌<◌, ◌≤◌, List, Option, IfSome, IfNone, length, slice_index, slice_index_or}
use Rattle.std.proofs.Common.{ControlFlow, Continue, Break}
use Rattle.std.proofs.Math.Seq.{paste}
use Rattle.fraction.specs.Fraction.{Fraction}
use Rattle.critical.specs.Reports.{Reports, list_of, Positive, Plannable, FirstWithout}
use Rattle.critical.specs.Rows.{Critical}
use Rattle.critical.proofs.Lines.{span}
use Rattle.critical.proofs.Room.{Roomy}
use Rattle.critical.proofs.Search.{Stretch, Scan, Found, Ready, floor, row_of}
use Rattle.answers.specs.Numbers.{Answer, number_of, place_of, blocks_of, width}
use Rattle.trials.specs.Rules.{Rule}
use Rattle.planner.specs.Outcome.{row_at, Outcome}
use Rattle.rules.specs.Offsets.{offsets_of, pace_of}
use Rattle.rules.specs.declared.Report.{Report}
use Rattle.rules.specs.declared.ReportList.{ReportList}
use Rattle.rules.specs.declared.Roll.{Roll}
use Rattle.planner.specs.declared.search.Mark.{Mark}
use Rattle.planner.specs.declared.search.Kept.{Kept}
use Rattle.planner.specs.declared.search.End.{End}

-- ---- what a list holds
-- The reports of a list of offsets.
abbrev pub reports_in : ReportList → Reports
reports_in list = list_of list.arrivals.now list.deadlines.now list.operations.now

-- Those of a list of readings, by their offsets.
abbrev pub offsets_in : ReportList → Reports
offsets_in list = offsets_of list.terms.reference list.arrivals.now list.deadlines.now list.operations.now

-- Report i of a list of offsets.
abbrev pub report_in : ReportList → ℕ → Report
report_in list i = record { arrival = (reports_in list).arrival i; deadline = (reports_in list).deadline i; operations = (reports_in list).operations i }

-- Where the pass at the fastest pace ends: at the first report without a plan, or nowhere where there is a plan for all.
pub record PassEnds (ℓ : Reports) (fastest : Fraction) (r : Option ℕ) : Type 0 where
  pub stops : IfSome r (λ i. FirstWithout ℓ fastest i)
  pub passes : IfNone r (Plannable ℓ fastest)

-- ---- the search
-- Whether report j and the next belong to one stretch.
pub record Joins (arrivals deadlines : List ℕ) (j : ℕ) : Type 0 where
  pub on : suc j < length arrivals
  pub meets : slice_index_or arrivals (suc j) 0 ≤ slice_index deadlines j

-- The least time at which report j may end: the next arrival where they join, else its deadline.
pub record FloorIs (arrivals deadlines : List ℕ) (j r : ℕ) : Type 0 where
  pub joined : Joins arrivals deadlines j → r ≡ slice_index arrivals (suc j)
  pub apart : (Joins arrivals deadlines j → ⊥) → r ≡ slice_index deadlines j

-- The mark of a report and a time, nil where that time is before s.
abbrev pub mark : (at time s operations : ℕ) → Mark
mark at time s operations = record { at = at; pace = record { ticks = time - s; operations = operations } }

-- A mark is the pace from s to a time of its report, over the operations from p on.
pub record MarkIs (ℓ : Reports) (s p : ℕ) (time : ℕ → ℕ) (m : Mark) : Type 0 where
  pub ticks_are : m.pace.ticks ≡ time m.at - s
  pub operations_are : m.pace.operations ≡ span ℓ.operations p m.at

-- What the search keeps, in a stretch that ends at k.
pub record KeptIn (ℓ : Reports) (s p k : ℕ) (kept : Kept) : Type 0 where
  pub stretch : Stretch ℓ p k
  pub scan : Scan ℓ s p k kept.next kept.high.at kept.low.at
  pub high_is : MarkIs ℓ s p ℓ.deadline kept.high
  pub low_is : MarkIs ℓ s p (floor ℓ k) kept.low
  pub sum_is : kept.sum ≡ span ℓ.operations p (kept.next - 1)
  pub upto : kept.next ≤ suc k

pub record KeptIs (ℓ : Reports) (s p : ℕ) (kept : Kept) : Type 0 where
  pub k : ℕ
  pub kept_in : KeptIn ℓ s p k kept

-- What it keeps, with the marks of the next report, which is still of the stretch.
pub record Weighed (ℓ : Reports) (s p : ℕ) (kept : Kept) (high low : Mark) : Type 0 where
  pub k : ℕ
  pub kept_in : KeptIn ℓ s p k kept
  pub on : kept.next ≤ k
  pub high_at : high.at ≡ kept.next
  pub low_at : low.at ≡ kept.next
  pub high_is : MarkIs ℓ s p ℓ.deadline high
  pub low_is : MarkIs ℓ s p (floor ℓ k) low

-- Where a block ends: what is found, at any fastest pace at which the stretch is in time.
pub record EndIs (ℓ : Reports) (s p : ℕ) (e : End) : Type 0 where
  pub k : ℕ
  pub stretch : Stretch ℓ p k
  pub on : e.last ≤ k
  pub from : p ≤ e.last
  pub operations_are : e.operations ≡ span ℓ.operations p e.last
  pub found : (fastest : Fraction) → Ready ℓ fastest s p k → Found ℓ fastest k (row_of ℓ s p e.last e.time)

-- What one report does to the search, as the code says it: it ends it (Break), or it joins and the search goes on (Continue).
abbrev pub Step : Type 0
Step = ControlFlow End Kept

-- Each is right: the end is that of a block, or what is kept then is right for the reports up to this one.
abbrev pub StepIs : Reports → ℕ → ℕ → ℕ → Step → Type 0
StepIs ℓ s p next (Break e) = EndIs ℓ s p e
StepIs ℓ s p next (Continue kept) = KeptIs ℓ s p kept × (kept.next ≡ next + 1)

-- ---- the rows
-- The buffer with the numbers of row k written: nothing else of it changes.
abbrev pub put_row : List ℕ → ℕ → List ℕ → List ℕ
put_row buffer k numbers = paste buffer (width * k) numbers width

-- What the nested search leaves: the rows of the plan wanted, at any fastest pace for which the list is roomy; the rest of the buffer as it was.
pub record BlocksIn (ℓ : Reports) (before : List ℕ) (blocks : ℕ) (after : List ℕ) : Type 0 where
  pub as_long : length after ≡ length before
  pub rest : (i : ℕ) → width * blocks ≤ i → slice_index after i ≡ slice_index before i
  pub rows : (fastest : Fraction) → Positive fastest → Roomy ℓ fastest → Critical ℓ fastest blocks (row_at after)

-- An answer, by some of the rules, for a list of offsets.
abbrev pub Settles : List Rule → Reports → Roll → List ℕ → Answer → List ℕ → Type 0
Settles rules ℓ terms before answer after =
    Outcome rules ℓ (pace_of terms) before (number_of answer) (place_of answer) (blocks_of answer) after
