-- Above the slowest pace: the sums of a plan that is no slower grow as those of every such plan.
-- Assumes nothing.
use Rattle.std.specs.Prelude.{Option, None, Some}
use Rattle.fraction.specs.Fraction.{Fraction, ◌≼◌, ◌≈◌, plus, less}
use Rattle.fraction.proofs.Order.{≼_refl, ≼_trans, ≈_trans, ≈_≼, ≈_≽, ≺_≼, split, plus_≼, less_by_way}
use Rattle.critical.specs.Reports.{Reports, Paces}
use Rattle.critical.specs.Cost.{total, sum_at}
use Rattle.slowest.specs.Slowest.{UpTo, NoSlower}
use Rattle.slowest.proofs.Sums.{total_≈, total_plus}

-- above the slowest pace the sum of a plan that is no slower is its sum at the slowest pace, and as much more for every such plan
pub sum_above :
    (ℓ : Reports) (slowest : Fraction) (T : Paces) (c : Fraction) → slowest ≼ c → NoSlower ℓ (Some slowest) T →
    sum_at ℓ c T ≈ plus (sum_at ℓ slowest T) (total ℓ (λ i. less c slowest) ℓ.count)
sum_above ℓ slowest T c h w =
    ≈_trans (total_≈ ℓ (λ i. less c (T i)) (λ i. plus (less slowest (T i)) (less c slowest)) ℓ.count (λ i k. less_by_way (w.no_slower i k) h))
    (total_plus ℓ (λ i. less slowest (T i)) (λ i. less c slowest) ℓ.count)

-- so where one plan's sums are no greater than another's up to the slowest pace, and neither is slower, they are no greater anywhere
pub above :
    (ℓ : Reports) (slowest : Option Fraction) (T U : Paces) → NoSlower ℓ slowest T → NoSlower ℓ slowest U →
    ((c : Fraction) → UpTo slowest c → sum_at ℓ c T ≼ sum_at ℓ c U) → (c : Fraction) → sum_at ℓ c T ≼ sum_at ℓ c U
above ℓ None T U v w upto c = upto c tt
above ℓ (Some s) T U v w upto c =
    split s c
    (λ l.
    ≼_trans (≈_≼ (sum_above ℓ s T c (≺_≼ l) v))
    (≼_trans (plus_≼ (upto s (≼_refl s)) (≼_refl (total ℓ (λ i. less c s) ℓ.count))) (≈_≽ (sum_above ℓ s U c (≺_≼ l) w))))
    (λ g. upto c g)
