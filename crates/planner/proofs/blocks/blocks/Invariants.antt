-- The search keeps what it has of the block that it is at; the rows of the blocks before are built.
use Rattle.std.proofs.Common.{◌+◌, ◌-◌, length}
use Rattle.planner.specs.Inside.{reports_in, KeptIs}
use Rattle.planner.proofs.Building.{Building}
use Rattle.planner.proofs.blocks.blocks.Given as goal

abbrev pub invariant-search : goal.invariant-search
invariant-search l = KeptIs (reports_in l.fair.list) l.from l.first l.kept

abbrev pub decreases-search : goal.decreases-search
decreases-search l = length l.fair.list.arrivals.now + 1 - l.kept.next

abbrev pub invariant-loop-first : goal.invariant-loop-first
invariant-loop-first l = Building (reports_in l.fair.list) l.initial.rows l.count l.first l.ended l.rows

abbrev pub decreases-loop-first : goal.decreases-loop-first
decreases-loop-first l = length l.fair.list.arrivals.now - l.first
