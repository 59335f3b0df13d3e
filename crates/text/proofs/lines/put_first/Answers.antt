-- The word, and behind it the line of three numbers.
-- Assumes nothing.
use Rattle.lists.proofs.Putting.{puts_part, puts_then}
use Rattle.text.proofs.lines.put_first.Goals as goal

pub returns-clause-puts : goal.returns-clause-puts
returns-clause-puts c = puts_then c.put-word.ensures (puts_part c.put_line.ensures.puts)
