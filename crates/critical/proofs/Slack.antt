-- What a rival strays from a threshold: what the strong inequality has beside the two sums. No statement of the demands needs it.
-- Assumes nothing.
use Prim.Native.Nat.{◌*◌}
use mathlib.Core.Bool.{cond}
use lib.Dec.{ltb}
use Rattle.fraction.specs.Fraction.{Fraction, less}
use Rattle.critical.specs.Reports.{Reports, Paces}
use Rattle.critical.specs.Cost.{total}

-- What a rival's pace q strays to the wrong side of threshold c: above it where ours, p, is below, below it where ours is not.
abbrev pub stray : Fraction → Fraction → Fraction → Fraction
stray c p q = cond (ltb (p.num * c.den) (c.num * p.den)) (less q c) (less c q)

-- The sum, over the reports, of operations times what rival U strays from threshold c beside our plan T.
abbrev pub slack_at : Reports → Fraction → Paces → Paces → Fraction
slack_at ℓ c T U = total ℓ (λ i. stray c (T i) (U i)) ℓ.count
