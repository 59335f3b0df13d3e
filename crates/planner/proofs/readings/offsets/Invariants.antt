-- The offsets of the readings up to i stand in out.
use Rattle.std.proofs.Common.{length, get_or}
use Rattle.lists.proofs.Filling.{Filled}
use Rattle.rules.specs.Offsets.{offset}
use Rattle.planner.proofs.readings.offsets.Given as goal

abbrev pub invariant-loop-i : goal.invariant-loop-i
invariant-loop-i l = Filled (λ k. offset l.reference (get_or l.readings k 0)) (length l.readings) l.initial.out l.i l.out
