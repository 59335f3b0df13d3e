-- A step that goes on keeps what the search keeps, and takes one report; one that ends the search has found the block's end, whose row is written.
use Rattle.std.proofs.Common.{◌+◌, sym, subst}
use Rattle.planner.specs.Inside.{reports_in}
use Rattle.planner.proofs.Building.{Building, builds_from_nothing, builds_on, builds_all}
use Rattle.planner.proofs.blocks.blocks.Goals as goal

pub loop-first-init : goal.loop-first-init
loop-first-init c = builds_from_nothing _ _ _ c.args.fair.fair c.args.rows.now c.requires

pub loop-first-preserved : goal.loop-first-preserved
loop-first-preserved c =
    let a = c.args in
    let l = c.loop-first in
    let e = c.in-Break.end in
    subst (Building (reports_in a.fair.list) a.rows.now (l.count + 1) (e.last + 1) e.time) (sym c.put_row.ensures)
    (builds_on _ _ _ a.fair.fair a.rows.now c.requires l.count l.first l.ended _ l.rows l.invariant e c.in-Break.ensures c.max-from.ensures c.loop-first-test.true)

pub returns : goal.returns
returns c = builds_all _ _ _ c.args.fair.fair c.args.rows.now c.requires _ _ _ _ c.loop-first.invariant c.loop-first-test.false
