-- What the planner is handed (01, "Words and numbers"): readings of the buoy's clock, and the list of offsets that they stand for.
-- Assumes nothing.
use Rattle.std.specs.Prelude.{ℕ, ◌+◌, ◌-◌, ◌%◌, ◌^◌, List, map, Option, None, Some}
use Rattle.fraction.specs.Fraction.{Fraction, over}
use Rattle.critical.specs.Reports.{Reports, list_of}
use Rattle.rules.specs.declared.Roll.{Roll}
use Rattle.rules.specs.declared.ReportList.{ReportList}
use Rattle.fraction.specs.declared.Pace.{Pace}

-- A reading's offset is reading minus reference, taken modulo 2^32.
abbrev pub offset : ℕ → ℕ → ℕ
offset reference reading = (reading + (2 ^ 32 - reference)) % 2 ^ 32

-- The reports of three lists of readings, by their offsets.
abbrev pub offsets_of : ℕ → List ℕ → List ℕ → List ℕ → Reports
offsets_of reference arrivals deadlines operations = list_of (map (offset reference) arrivals) (map (offset reference) deadlines) operations

-- The fastest pace, P/Q.
abbrev pub pace_of : Roll → Fraction
pace_of terms = over terms.p terms.q

-- The slowest pace, R/T, where a floor gives one.
abbrev pub slowest_in : Option Pace → Option Fraction
slowest_in None = None
slowest_in (Some pace) = Some (over pace.ticks pace.operations)

-- The three lists, the terms that they come with (reference, P and Q), the floor that may be absent, and the row buffer as it is lent.
pub record Input : Type 0 where
  pub arrivals : List ℕ
  pub deadlines : List ℕ
  pub operations : List ℕ
  pub terms : Roll
  pub floor : Option Pace
  pub buffer : List ℕ

-- The input that a list of reports is handed in with.
abbrev pub input : ReportList → Option Pace → List ℕ → Input
input list floor buffer = record {
  arrivals = list.arrivals.now;
  deadlines = list.deadlines.now;
  operations = list.operations.now;
  terms = list.terms;
  floor = floor;
  buffer = buffer;
}

-- Its reports.
abbrev pub reports_of : Input → Reports
reports_of x = offsets_of x.terms.reference x.arrivals x.deadlines x.operations

-- Its fastest pace.
abbrev pub fastest_of : Input → Fraction
fastest_of x = pace_of x.terms

-- Its slowest pace, where it has one.
abbrev pub slowest_of : Input → Option Fraction
slowest_of x = slowest_in x.floor
