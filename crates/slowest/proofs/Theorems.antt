-- The theorems on a slowest pace, to be read: each with the plain sentence above it. Each reads with a slowest pace and without one, where it is the theorem of critical/proofs/Theorems.antt.
-- ours is the plan of the rows; floored slowest ours is what runs. No theorem asks that arrivals or deadlines are in any order. Nothing is assumed.
use Prim.Native.Nat.{ℕ}
use mathlib.Core.Logic.{◌↔◌}
use Rattle.std.specs.Prelude.{Option, Some}
use Rattle.fraction.specs.Fraction.{Fraction, ◌≼◌, ◌≺◌, whole}
use Rattle.fraction.proofs.Order.{≼_trans, ≈_≼}
use Rattle.critical.specs.Reports.{Reports, Paces, Positive, finish, Keeps, Allowed, Plannable}
use Rattle.critical.specs.Rows.{CriticalPlan}
use Rattle.critical.specs.Cost.{sum_at, Cost, Flatter, bill, NoHigher}
use Rattle.critical.proofs.Theorems.{least_sum, cost_by_sums}
use Rattle.slowest.specs.Slowest.{floored, UpTo, NoSlower, PlannableWithin}
use Rattle.slowest.proofs.Above as Above
use Rattle.slowest.proofs.Floored as Floored
use Rattle.slowest.proofs.Alone.{lone, drawn_out, lone_critical, lone_slower, lone_below}

-- ---- Demand 2: what runs is allowed

-- What runs finishes no later than the plan of the rows,
pub no_later : (ℓ : Reports) (slowest : Option Fraction) (ours : Paces) (i : ℕ) → finish ℓ (floored slowest ours) i ≼ finish ℓ ours i
no_later = Floored.floored_finish

-- is no slower than the slowest pace,
pub runs_within : (ℓ : Reports) (slowest : Option Fraction) (ours : Paces) → NoSlower ℓ slowest (floored slowest ours)
runs_within = Floored.floored_within

-- and is allowed, where the slowest pace is not below the fastest.
pub runs_allowed :
    (ℓ : Reports) (fastest : Fraction) (slowest : Option Fraction) (ours : Paces) →
    UpTo slowest fastest → Positive fastest → Allowed ℓ fastest ours →
    Allowed ℓ fastest (floored slowest ours)
runs_allowed ℓ fastest slowest ours = Floored.floored_allowed ℓ slowest fastest ours

-- There is an allowed plan exactly when there is one that is no slower than the slowest pace.
pub plan_within :
    (ℓ : Reports) (fastest : Fraction) (slowest : Option Fraction) →
    UpTo slowest fastest → Positive fastest →
    Plannable ℓ fastest ↔ PlannableWithin ℓ fastest slowest
plan_within ℓ fastest slowest h pos =
    (λ p. (floored slowest p.0, runs_allowed ℓ fastest slowest p.0 h pos p.1, runs_within ℓ slowest p.0), λ w. (w.0, w.1))

-- ---- Demand 3: no rival does better

-- At every threshold up to the slowest pace the sum of what runs is least among all plans that keep the list, slower ones too.
pub runs_least_sum :
    (ℓ : Reports) (fastest : Fraction) (slowest : Option Fraction) (ours rival : Paces) (c : Fraction) →
    CriticalPlan ℓ fastest ours → Keeps ℓ rival → UpTo slowest c →
    sum_at ℓ c (floored slowest ours) ≼ sum_at ℓ c rival
runs_least_sum ℓ fastest slowest ours rival c crit keeps h =
    ≼_trans (≈_≼ (Floored.floored_sum ℓ slowest ours c h)) (least_sum ℓ fastest ours rival c crit keeps)

-- At every threshold, above the slowest pace too, it is least among those that are no slower than the slowest pace: this follows from the sum at the slowest pace.
pub runs_least_sum_above :
    (ℓ : Reports) (fastest : Fraction) (slowest : Option Fraction) (ours rival : Paces) (c : Fraction) →
    CriticalPlan ℓ fastest ours → Keeps ℓ rival → NoSlower ℓ slowest rival →
    sum_at ℓ c (floored slowest ours) ≼ sum_at ℓ c rival
runs_least_sum_above ℓ fastest slowest ours rival c crit keeps within =
    Above.above ℓ slowest (floored slowest ours) rival (runs_within ℓ slowest ours) within (λ x. runs_least_sum ℓ fastest slowest ours rival x crit keeps) c

-- For slower rivals it need not be: here is a list, the plan of its rows and a slowest pace, and at a threshold above the slowest pace the sum of the rows' own paces, which are slower and keep the list, is smaller than that of what runs.
pub slower_rival_below :
    CriticalPlan lone (whole 1) drawn_out × (whole 2 ≺ drawn_out 0) × (sum_at lone (whole 3) drawn_out ≺ sum_at lone (whole 3) (floored (Some (whole 2)) drawn_out))
slower_rival_below = (lone_critical, lone_slower, lone_below)

-- So no cost that falls in ever flatter straight pieces can be lowered by a plan that keeps the list and is no slower than the slowest pace.
pub runs_least_cost :
    (ℓ : Reports) (fastest : Fraction) (slowest : Option Fraction) (ours rival : Paces) (c : Cost) →
    Flatter c.pieces c.rest → CriticalPlan ℓ fastest ours → Keeps ℓ rival → NoSlower ℓ slowest rival →
    NoHigher (bill ℓ c (floored slowest ours)) (bill ℓ c rival)
runs_least_cost ℓ fastest slowest ours rival c flat crit keeps within =
    cost_by_sums ℓ (floored slowest ours) rival c flat (λ x. runs_least_sum_above ℓ fastest slowest ours rival x crit keeps within)
