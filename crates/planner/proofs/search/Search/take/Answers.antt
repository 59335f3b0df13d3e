-- The stretch's end ends the search; else the operations up to the next report are few, and its marks are weighed.
use Rattle.std.proofs.Common.{refl, arith}
use Rattle.planner.proofs.Searching.{ends_whole, sum_small, weighed}
use Rattle.planner.proofs.search.Search.take.Goals as goal

pub returns-then-not-joins : goal.returns-then-not-joins
returns-then-not-joins c = ends_whole _ _ _ c.args.self.now.fair.fair _ _ _ c.requires (c.joins.ensures.no c.if-not-joins.true)

pub overflow_add-sum : goal.overflow_add-sum
overflow_add-sum c = omega (arith, sum_small _ _ _ c.args.self.now.fair.fair _ _ _ c.requires (c.joins.ensures.yes c.if-not-joins.false))

pub judge-requires : goal.judge-requires
judge-requires c = weighed _ _ _ c.args.self.now.fair.fair _ _ _ c.requires (c.joins.ensures.yes c.if-not-joins.false) _ _ _ _ refl c.floor.ensures c.new-high.ensures c.new-low.ensures
