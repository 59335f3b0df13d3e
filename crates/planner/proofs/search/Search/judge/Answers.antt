-- The report's low exceeds the least high, or its high lies below the greatest low: the search ends. Else it goes on.
use Rattle.std.proofs.Common.{sym, refl, ◌∙◌}
use Rattle.planner.proofs.Searching.{ends_by_rise, ends_by_fall, goes_on_with, keeps, takes, some}
use Rattle.planner.proofs.search.Search.judge.Goals as goal
use Rattle.planner.proofs.search.Search.judge.Goals.{then-high_stays, else-high_stays, then-low_stays, else-low_stays}

pub returns-then-below : goal.returns-then-below
returns-then-below c = ends_by_rise _ _ _ (some c.args.self.now) _ _ _ c.requires (sym c.below.ensures ∙ c.if-below.true)

pub returns-then-below-2 : goal.returns-then-below-2
returns-then-below-2 c = ends_by_fall _ _ _ (some c.args.self.now) _ _ _ c.requires (sym c.below-2.ensures ∙ c.if-below-2.true)

pub returns : goal.returns
returns c = (
  goes_on_with _ _ _ (some c.args.self.now) _ _ _ c.requires _ _ (sym c.below.ensures ∙ c.if-below.false) (sym c.below-2.ensures ∙ c.if-below-2.false)
      (elim c.if-high_stays.branch [
        | then-high_stays w ↦ keeps _ (sym c.below-high_stays.ensures ∙ w.if-high_stays.true) w.next_high-is
        | else-high_stays w ↦ takes _ (sym c.below-high_stays.ensures ∙ w.if-high_stays.false) w.next_high-is
      ])
      (elim c.if-low_stays.branch [
        | then-low_stays w ↦ keeps _ (sym c.below-low_stays.ensures ∙ w.if-low_stays.true) w.next_low-is
        | else-low_stays w ↦ takes _ (sym c.below-low_stays.ensures ∙ w.if-low_stays.false) w.next_low-is
      ]),
  refl,
)
