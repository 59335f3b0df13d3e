-- With room, the first line and the rows.
-- Assumes nothing.
use Rattle.std.proofs.Common.{arith}
use Rattle.lists.proofs.Putting.{puts_part}
use Rattle.text.proofs.PlanText.{says}
use Rattle.text.proofs.plan_text.Goals as goal

pub returns-clause-text_is : goal.returns-clause-text_is
returns-clause-text_is c = says (record { few = omega arith; rows_long = omega arith; out_long = omega arith }) c.put_first-behind.ensures.puts (puts_part c.put_rows.ensures.puts)
