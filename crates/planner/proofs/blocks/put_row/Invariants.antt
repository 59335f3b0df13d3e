-- The row's numbers up to j stand in the buffer.
use Rattle.answers.specs.Numbers.{width}
use Rattle.lists.proofs.Copying.{Copied}
use Rattle.planner.proofs.blocks.put_row.Given as goal

abbrev pub invariant-loop-j : goal.invariant-loop-j
invariant-loop-j l = Copied l.initial.rows l.at l.number-items width l.j l.rows
