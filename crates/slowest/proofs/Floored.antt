-- A plan run with a slowest pace: it is allowed, and its sums up to the slowest pace are those of the plan itself.
-- Assumes nothing.
use Prim.Native.Nat.{ℕ}
use Rattle.std.specs.Prelude.{Option}
use native.Mathlib.Nat.{lt-suc_self}
use Rattle.fraction.specs.Fraction.{Fraction, ◌≼◌, ◌≈◌, less}
use Rattle.fraction.proofs.Order.{≼_trans}
use Rattle.critical.specs.Reports.{Reports, Paces, Positive, finish, Allowed}
use Rattle.critical.specs.Cost.{sum_at}
use Rattle.critical.proofs.Room.{finish_≼}
use Rattle.slowest.specs.Slowest.{floored, UpTo, NoSlower}
use Rattle.slowest.proofs.Sums.{total_≈}
use Rattle.slowest.proofs.Capped.{capped_≼, capped_within, ≼_capped, capped_positive, less_capped}

module _ (ℓ : Reports) (slowest : Option Fraction) where
  pub floored_within : (T : Paces) → NoSlower ℓ slowest (floored slowest T)
  floored_within T = record { no_slower = λ i h. capped_within slowest (T i) }

  -- a faster pace finishes no later
  pub floored_finish : (T : Paces) (i : ℕ) → finish ℓ (floored slowest T) i ≼ finish ℓ T i
  floored_finish T i = finish_≼ ℓ (λ j h. capped_≼ slowest (T j)) i (lt-suc_self i)

  -- so what runs is allowed, where the slowest pace is not below the fastest
  pub floored_allowed : (fastest : Fraction) (T : Paces) → UpTo slowest fastest → Positive fastest → Allowed ℓ fastest T → Allowed ℓ fastest (floored slowest T)
  floored_allowed fastest T h pos a = record {
    keeps = record {
      positive = λ i k. capped_positive slowest fastest (T i) h pos (a.keeps.positive i k);
      in_time = λ i k. ≼_trans (floored_finish T i) (a.keeps.in_time i k);
    };
    no_faster = λ i k. ≼_capped slowest h (a.no_faster i k);
  }

  -- up to the slowest pace the sums are those of the plan itself
  pub floored_sum : (T : Paces) (c : Fraction) → UpTo slowest c → sum_at ℓ c (floored slowest T) ≈ sum_at ℓ c T
  floored_sum T c h = total_≈ ℓ (λ i. less c (floored slowest T i)) (λ i. less c (T i)) ℓ.count (λ i k. less_capped slowest c (T i) h)
