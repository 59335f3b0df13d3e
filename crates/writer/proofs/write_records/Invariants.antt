-- The records passed are put, and their numbers fit. The measure is what is left of them.
-- Assumes nothing.
use Rattle.writer.proofs.Laying.{Laid}
use Rattle.writer.proofs.write_records.Given as goal

abbrev pub invariant-loop-i : goal.invariant-loop-i
invariant-loop-i l = Laid l.list.arrivals.now l.list.deadlines.now l.list.operations.now l.initial.part l.i l.part
