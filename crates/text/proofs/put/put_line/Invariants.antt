-- The numbers passed are put, with a space behind each.
-- Assumes nothing.
use Rattle.lists.proofs.Putting.{Turns}
use Rattle.text.specs.Text.{line_room}
use Rattle.text.proofs.Spaced.{spaced}
use Rattle.text.proofs.put.put_line.Given as goal

abbrev pub invariant-loop-n : goal.invariant-loop-n
invariant-loop-n l = Turns l.initial.out 0 (spaced l.numbers) (line_room 1) l.n-index l.behind l.out
