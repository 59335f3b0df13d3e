-- One more of the row's numbers is copied.
use Rattle.std.proofs.Common.{length, ap}
use Rattle.lists.proofs.Copying.{copied_more}
use Rattle.planner.proofs.blocks.put_row.Goals as goal

pub loop-j-preserved : goal.loop-j-preserved
loop-j-preserved c = copied_more c.requires (ap length c.into-numbers.ensures) c.loop-j.invariant c.loop-j-test.true
