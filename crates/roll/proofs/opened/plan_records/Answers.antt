-- The three arrays are the columns.
use Rattle.std.proofs.Math.Seq.{length-take-le}
use Rattle.roll.proofs.Rolls.{planned_columns}
use Rattle.roll.proofs.opened.plan_records.Goals as goal

pub returns : goal.returns
returns c =
    let a = c.args in
    planned_columns a.part.now _ _ _ a.ending.trailer.count _ a.ending.trailer.terms a.ending.floor a.rows.now _ _ _ _ (length-take-le _ _ c.requires.1) c.column.ensures c.column-2.ensures c.column-3.ensures c.plan.ensures
