-- Exact fractions: what a pace, a finish, a threshold and a sum are. Nothing is rounded, and no common scale appears.
-- Assumes nothing.
use Rattle.std.specs.Prelude.{ℕ, ◌+◌, ◌*◌, ◌-◌, ◌≤◌, ◌<◌, max, min, ◌≡◌}
use Rattle.std.proofs.Common.{zero-le, suc-le-suc, mul-pos}
use Rattle.std.proofs.Math.Nat.{le-max_left}

infix 50 ◌≼◌ ◌≺◌ ◌≈◌
-- A fraction is two whole numbers, the lower one positive.
pub record Fraction : Type 0 where
  pub num : ℕ
  pub den : ℕ
  pub proper : 0 < den

-- f is at most g: the cross products are.
pub record ◌≼◌ (f g : Fraction) : Type 0 where
  pub cross : f.num * g.den ≤ g.num * f.den

-- f is below g.
pub record ◌≺◌ (f g : Fraction) : Type 0 where
  pub cross : f.num * g.den < g.num * f.den

-- f and g are the same amount.
pub record ◌≈◌ (f g : Fraction) : Type 0 where
  pub cross : f.num * g.den ≡ g.num * f.den

-- The whole number n as a fraction.
unfoldable pub whole : ℕ → Fraction
whole n = record { num = n; den = 1; proper = suc-le-suc zero-le }

-- n divided by d. (d is positive wherever it is used; n over nil is read as n over 1, so that it always is a fraction.)
unfoldable pub over : ℕ → ℕ → Fraction
over n d = record { num = n; den = max 1 d; proper = le-max_left 1 d }

-- The sum of two fractions.
unfoldable pub plus : Fraction → Fraction → Fraction
plus f g = record { num = f.num * g.den + g.num * f.den; den = f.den * g.den; proper = mul-pos f.proper g.proper }

-- n times a fraction.
unfoldable pub times : ℕ → Fraction → Fraction
times n f = record { num = n * f.num; den = f.den; proper = f.proper }

-- The greater of two fractions: of two times the later, of two paces the slower.
unfoldable pub later : Fraction → Fraction → Fraction
later f g = record { num = max (f.num * g.den) (g.num * f.den); den = f.den * g.den; proper = mul-pos f.proper g.proper }

-- The lesser of two fractions: of two times the sooner, of two paces the faster.
unfoldable pub sooner : Fraction → Fraction → Fraction
sooner f g = record { num = min (f.num * g.den) (g.num * f.den); den = f.den * g.den; proper = mul-pos f.proper g.proper }

-- What f has more than g; nil where it has not.
unfoldable pub less : Fraction → Fraction → Fraction
less f g = record { num = f.num * g.den - g.num * f.den; den = f.den * g.den; proper = mul-pos f.proper g.proper }

-- The product of two fractions.
unfoldable pub product : Fraction → Fraction → Fraction
product f g = record { num = f.num * g.num; den = f.den * g.den; proper = mul-pos f.proper g.proper }
