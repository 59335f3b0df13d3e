-- The records, and the trailer in the part behind them.
-- Assumes nothing.
use Rattle.lists.proofs.Putting.{puts_part, puts_then}
use Rattle.writer.proofs.write_roll.Goals as goal

pub returns-clause-puts : goal.returns-clause-puts
returns-clause-puts c = puts_then c.write_records.ensures.puts (puts_part c.write_trailer.ensures.puts)
