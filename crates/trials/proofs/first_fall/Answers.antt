-- A scan, from the second number on.
use Rattle.trials.proofs.Scanning.{scan_begins_falls, scan_goes, scan_finds, scan_ends, falls_at, no_fall_at}
use Rattle.trials.proofs.first_fall.Goals as goal

pub loop-i-init : goal.loop-i-init
loop-i-init c = scan_begins_falls _

pub returns-then-xs-i : goal.returns-then-xs-i
returns-then-xs-i c = scan_finds c.loop-i.invariant c.loop-i-test.true (falls_at _ _ c.loop-i.auto.i c.if-xs-i.true)

pub loop-i-preserved : goal.loop-i-preserved
loop-i-preserved c = scan_goes c.loop-i.invariant (no_fall_at _ _ c.loop-i.auto.i c.if-xs-i.false)

pub returns : goal.returns
returns c = scan_ends c.loop-i.invariant c.loop-i-test.false
