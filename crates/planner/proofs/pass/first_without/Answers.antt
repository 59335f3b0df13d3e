-- One report after another is passed, or the first is found that is late.
use Rattle.std.proofs.Common.{arith}
use Rattle.planner.proofs.Through.{pass_begins, pass_stops, pass_goes_on, pass_ends}
use Rattle.planner.proofs.pass.first_without.Goals as goal

pub loop-i-init : goal.loop-i-init
loop-i-init c = pass_begins c.args.fair

pub returns-then-due-done : goal.returns-then-due-done
returns-then-due-done c = record {
  stops = pass_stops c.args.fair c.loop-i.invariant c.report-report.ensures c.finish-done.ensures c.due.ensures c.loop-i-test.true c.if-due-done.true;
  passes = tt;
}

pub loop-i-preserved : goal.loop-i-preserved
loop-i-preserved c = pass_goes_on c.args.fair c.loop-i.invariant c.report-report.ensures c.finish-done.ensures c.due.ensures c.loop-i-test.true c.if-due-done.false

pub returns : goal.returns
returns c = record { stops = tt; passes = pass_ends c.args.fair c.loop-i.invariant (omega (arith, c.loop-i-test.false)) }
