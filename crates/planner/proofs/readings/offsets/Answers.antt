-- One offset after another is filled in.
use Rattle.std.proofs.Common.{sym, ◌∙◌}
use Rattle.lists.proofs.Filling.{filled_none, filled_more, filled_all, map-listed}
use Rattle.rules.specs.Offsets.{offset}
use Rattle.planner.proofs.readings.offsets.Goals as goal

pub loop-i-init : goal.loop-i-init
loop-i-init c = filled_none

pub loop-i-preserved : goal.loop-i-preserved
loop-i-preserved c = filled_more c.loop-i.invariant c.loop-i-test.true c.requires c.offset.ensures

pub returns : goal.returns
returns c = filled_all c.loop-i.invariant c.loop-i-test.false ∙ sym (map-listed (offset c.args.reference) c.args.readings.now)
