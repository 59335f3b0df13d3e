-- Sums over a list of equal amounts, and of added ones.
-- Assumes nothing.
use Prim.Native.Nat.{ℕ, zero, suc, ◌<◌}
use native.Mathlib.Omega.{arith}
use native.Mathlib.Nat.{lt-suc_self}
use Rattle.fraction.specs.Fraction.{Fraction, ◌≈◌, whole, plus, times}
use Rattle.fraction.proofs.Order.{≈_refl, ≈_trans, plus_≈, times_≈, plus_side}
use Rattle.critical.specs.Reports.{Reports}
use Rattle.critical.specs.Cost.{total}

nil_plus_nil : whole zero ≈ plus (whole zero) (whole zero)
unfolding whole plus
nil_plus_nil = omega arith

module _ (ℓ : Reports) (g h : ℕ → Fraction) where
  pub total_≈ : (n : ℕ) → ((i : ℕ) → i < n → g i ≈ h i) → total ℓ g n ≈ total ℓ h n
  unfolding total
  total_≈ zero e = ≈_refl (whole zero)
  total_≈ (suc n) e = plus_≈ (total_≈ n (λ i k. e i (omega arith))) (times_≈ (ℓ.operations n) (e n (lt-suc_self n)))

  pub total_plus : (n : ℕ) → total ℓ (λ i. plus (g i) (h i)) n ≈ plus (total ℓ g n) (total ℓ h n)
  unfolding total
  total_plus zero = nil_plus_nil
  total_plus (suc n) =
      ≈_trans (plus_≈ (total_plus n) (≈_refl (times (ℓ.operations n) (plus (g n) (h n)))))
      (plus_side (ℓ.operations n) (total ℓ g n) (total ℓ h n) (g n) (h n))
