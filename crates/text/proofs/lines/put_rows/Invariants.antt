-- The lines of the blocks passed are put.
-- Assumes nothing.
use Rattle.answers.specs.Numbers.{width}
use Rattle.lists.proofs.Putting.{Turns}
use Rattle.text.specs.Text.{line_room, row_lines}
use Rattle.text.proofs.lines.put_rows.Given as goal

abbrev pub invariant-loop-row : goal.invariant-loop-row
invariant-loop-row l = Turns l.initial.out 0 (row_lines l.fn.rows) (line_room width) l.row-index l.behind l.out
