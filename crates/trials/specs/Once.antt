-- That no rule of a list is given has one proof, as a ghost field asks.
-- Assumes nothing.
use Rattle.std.specs.Prelude.{List, [], ◌∷◌}
use Rattle.std.specs.Coded.{×_prop, Π_prop, Unit-prop}
use mathlib.Core.HLevel.{⊥_prop}
use Rattle.trials.specs.Rules.{Rule, Accepted}

pub Accepted-prop : (rules : List Rule) → IsProp (Accepted rules)
unfolding Accepted
Accepted-prop [] = Unit-prop
Accepted-prop (r ∷ rs) = ×_prop (Π_prop λ place. Π_prop λ given. ⊥_prop) (Accepted-prop rs)
