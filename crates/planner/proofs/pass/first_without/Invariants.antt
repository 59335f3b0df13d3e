-- What the pass keeps of the reports passed.
use Rattle.planner.proofs.Through.{Passing}
use Rattle.planner.proofs.pass.first_without.Given as goal

abbrev pub invariant-loop-i : goal.invariant-loop-i
invariant-loop-i l = Passing l.fair l.i l.done
