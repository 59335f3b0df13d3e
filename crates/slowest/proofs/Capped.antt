-- One pace, capped by a slowest pace that may be absent.
-- Assumes nothing.
use Rattle.std.specs.Prelude.{Option, None, Some}
use Rattle.fraction.specs.Fraction.{Fraction, ◌≼◌, ◌≈◌, less}
use Rattle.fraction.proofs.Order.{≼_refl, ≈_refl, positive_up, sooner_≼_left, sooner_≼_right, ≼_sooner, sooner_positive, less_sooner}
use Rattle.critical.specs.Reports.{Positive}
use Rattle.slowest.specs.Slowest.{capped, UpTo}

pub capped_≼ : (slowest : Option Fraction) (pace : Fraction) → capped slowest pace ≼ pace
capped_≼ None pace = ≼_refl pace
capped_≼ (Some s) pace = sooner_≼_left pace s

pub capped_within : (slowest : Option Fraction) (pace : Fraction) → UpTo slowest (capped slowest pace)
capped_within None pace = tt
capped_within (Some s) pace = sooner_≼_right pace s

-- a fastest pace that is no slower than the slowest: what is no faster stays so
pub ≼_capped : (slowest : Option Fraction) {fastest pace : Fraction} → UpTo slowest fastest → fastest ≼ pace → fastest ≼ capped slowest pace
≼_capped None h k = k
≼_capped (Some s) h k = ≼_sooner k h

pub capped_positive : (slowest : Option Fraction) (fastest pace : Fraction) → UpTo slowest fastest → Positive fastest → Positive pace → Positive (capped slowest pace)
capped_positive None fastest pace h pos p = p
capped_positive (Some s) fastest pace h pos p = sooner_positive pace s p (positive_up h pos)

-- at a threshold up to the slowest pace the shortfall is the same
pub less_capped : (slowest : Option Fraction) (c pace : Fraction) → UpTo slowest c → less c (capped slowest pace) ≈ less c pace
less_capped None c pace h = ≈_refl (less c pace)
less_capped (Some s) c pace h = less_sooner pace h
