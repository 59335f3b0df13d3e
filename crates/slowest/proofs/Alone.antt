-- Why 02 stops at the slowest pace: one report of 4 operations between 0 and 10, with the slowest pace 2. Its row's pace, 10/4, is slower and keeps the list; at threshold 3 it has a smaller sum than what runs.
-- Assumes nothing.
use mathlib.Core.List.{[], ◌∷◌}
use Rattle.std.specs.Prelude.{Some}
use Rattle.fraction.specs.Fraction.{◌≺◌, whole, over, plus, times, later, sooner, less}
use Rattle.critical.specs.Reports.{Reports, Paces, list_of, start, steady}
use Rattle.critical.specs.Rows.{CriticalPlan}
use Rattle.critical.specs.Cost.{total, sum_at}
use Rattle.critical.proofs.Tests.{test_≺, test_critical_plan}
use Rattle.slowest.specs.Slowest.{floored}

abbrev pub lone : Reports
lone = list_of (0 ∷ []) (10 ∷ []) (4 ∷ [])

-- its row's pace
abbrev pub drawn_out : Paces
drawn_out = steady (over 10 4)

pub lone_critical : CriticalPlan lone (whole 1) drawn_out
unfolding start whole over plus times later
lone_critical = (test_critical_plan lone (whole 1) drawn_out).sound tt

pub lone_slower : whole 2 ≺ drawn_out 0
unfolding whole over
lone_slower = (test_≺ (whole 2) (drawn_out 0)).sound tt

pub lone_below : sum_at lone (whole 3) drawn_out ≺ sum_at lone (whole 3) (floored (Some (whole 2)) drawn_out)
unfolding whole over plus times total less sooner
lone_below = (test_≺ (sum_at lone (whole 3) drawn_out) (sum_at lone (whole 3) (floored (Some (whole 2)) drawn_out))).sound tt
