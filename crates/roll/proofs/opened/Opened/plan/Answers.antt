-- The rules of the whole list, of the trailer's numbers, and then the list's plan.
use Rattle.trials.proofs.Trying.{passed}
use Rattle.roll.proofs.Rolls.{counted, refused_list, few_records, part_long, planned_roll}
use Rattle.roll.proofs.opened.Opened.plan.Goals as goal

pub returns-in_err-count_rules : goal.returns-in_err-count_rules
returns-in_err-count_rules c =
    let r = c.args.self in
    refused_list r.roll.file.now c.args.rows.now _ r.accepted c.ending-ending.ensures c.from_residual.result (counted r.roll.file.now c.args.rows.now _ r.accepted c.ending-ending.ensures c.count_rules.ensures) c.in_err-count_rules.was c.from_residual.ensures

pub plan_records-requires : goal.plan_records-requires
plan_records-requires c =
    let r = c.args.self in (
      part_long r.roll.file.now c.args.rows.now _ r.accepted c.ending-ending.ensures _ (c.part.ensures.accepted r.accepted).bytes,
      few_records r.roll.file.now c.args.rows.now _ r.accepted c.ending-ending.ensures (passed (counted r.roll.file.now c.args.rows.now _ r.accepted c.ending-ending.ensures c.count_rules.ensures) c.in_ok-count_rules.was),
    )

pub returns : goal.returns
returns c =
    let r = c.args.self in
    planned_roll r.roll.file.now c.args.rows.now _ r.accepted c.ending-ending.ensures _ _ _ _ _ (c.part.ensures.accepted r.accepted).bytes c.plan_records.ensures
