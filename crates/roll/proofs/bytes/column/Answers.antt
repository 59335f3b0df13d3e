-- A loop that fills out.
use Rattle.std.proofs.Common.{refl, arith}
use Rattle.lists.proofs.Filling.{filled_none, filled_more, filled_whole}
use Rattle.roll.proofs.bytes.column.Goals as goal

pub loop-i-init : goal.loop-i-init
loop-i-init c = filled_none

pub loop-i-preserved : goal.loop-i-preserved
loop-i-preserved c = filled_more c.loop-i.invariant c.loop-i-test.true (omega arith) c.u32_at.ensures

pub returns : goal.returns
returns c = filled_whole c.loop-i.invariant c.loop-i-test.false refl
