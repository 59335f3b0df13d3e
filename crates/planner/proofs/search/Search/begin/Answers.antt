-- What is kept of the block's first report.
use Rattle.std.proofs.Common.{refl}
use Rattle.planner.proofs.Searching.{begins_kept}
use Rattle.planner.proofs.search.Search.begin.Goals as goal

pub returns-clause-kept_is : goal.returns-clause-kept_is
returns-clause-kept_is c = let block = c.args.self.now in begins_kept _ _ _ block.fair.fair _ _ _ _ _ _ block.on refl c.floor.ensures c.new-high.ensures c.new-low.ensures
