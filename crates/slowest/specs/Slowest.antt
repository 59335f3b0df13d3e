-- The slowest pace (02, W2: the clock has a floor), which may be absent. Rows are as ever; it is the paces that run that it changes. Their starts and finishes are those of every plan (critical/specs/Reports.antt).
-- Assumes nothing.
use Rattle.std.specs.Prelude.{ℕ, ◌<◌, Option, None, Some}
use Rattle.fraction.specs.Fraction.{Fraction, ◌≼◌, sooner}
use Rattle.critical.specs.Reports.{Reports, Paces, Allowed}

-- The faster of a pace and the slowest, where there is one.
abbrev pub capped : Option Fraction → Fraction → Fraction
capped None pace = pace
capped (Some slowest) pace = sooner pace slowest

-- What runs: each report at the faster of its pace and the slowest.
abbrev pub floored : Option Fraction → Paces → Paces
floored slowest T i = capped slowest (T i)

-- A pace is no slower than the slowest; of a threshold: it goes up to the slowest. Without a slowest pace every pace is so.
abbrev pub UpTo : Option Fraction → Fraction → Type 0
UpTo None pace = Unit {0}
UpTo (Some slowest) pace = pace ≼ slowest

-- A plan is no slower than the slowest pace, at every report.
pub record NoSlower (ℓ : Reports) (slowest : Option Fraction) (T : Paces) : Type 0 where
  pub no_slower : (i : ℕ) → i < ℓ.count → UpTo slowest (T i)

-- Some allowed plan exists that is no slower than the slowest pace.
abbrev pub PlannableWithin : Reports → Fraction → Option Fraction → Type 0
PlannableWithin ℓ fastest slowest = (T : Paces) × Allowed ℓ fastest T × NoSlower ℓ slowest T
