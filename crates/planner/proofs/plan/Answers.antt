-- A refusal by the rules of the whole list stands; where they are silent, those of the reports are left.
use Rattle.trials.proofs.Trying.{passed}
use Rattle.rules.specs.Offsets.{input, reports_of, fastest_of}
use Rattle.rules.specs.Rules.{overall_rules, report_rules}
use Rattle.rules.proofs.Leaving.{sized_lists, good_terms}
use Rattle.planner.proofs.Outcomes.{handed_up, goes_on}
use Rattle.planner.proofs.plan.Goals as goal

pub returns-in_err-count_rules : goal.returns-in_err-count_rules
returns-in_err-count_rules c =
    let a = c.args in
    let x = input a.list a.floor a.rows.now in
    handed_up (reports_of x) (fastest_of x) x.buffer (overall_rules x) (report_rules (reports_of x) (fastest_of x)) c.from_residual.result c.count_rules.ensures c.in_err-count_rules.was c.from_residual.ensures

pub settle_readings-requires-clause-sized : goal.settle_readings-requires-clause-sized
settle_readings-requires-clause-sized c =
    let l = c.args.list in
    sized_lists l.arrivals.now l.deadlines.now l.operations.now c.args.rows.now l.terms c.args.floor (passed c.count_rules.ensures c.in_ok-count_rules.was)

pub settle_readings-requires-clause-pace : goal.settle_readings-requires-clause-pace
settle_readings-requires-clause-pace c =
    let l = c.args.list in
    good_terms l.arrivals.now l.deadlines.now l.operations.now c.args.rows.now l.terms c.args.floor (passed c.count_rules.ensures c.in_ok-count_rules.was)

pub returns : goal.returns
returns c =
    let a = c.args in
    let x = input a.list a.floor a.rows.now in
    goes_on (reports_of x) (fastest_of x) x.buffer (overall_rules x) (report_rules (reports_of x) (fastest_of x)) _ _ _ _ (passed c.count_rules.ensures c.in_ok-count_rules.was) c.settle_readings.ensures
