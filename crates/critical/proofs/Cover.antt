-- Rows that follow each other without gap: which row holds a report, and the plan of the rows there.
-- Assumes nothing.
use Prim.Native.Nat.{ℕ, zero, suc, ◌≤◌, ◌<◌}
use mathlib.Core.Path.{◌≡◌, refl, sym, ◌∙◌, ap, subst}
use mathlib.Core.Bool.{cond}
use mathlib.Core.Logic.{⊎_elim}
use native.Mathlib.Omega.{arith}
use native.Mathlib.Nat.{eq-or-lt_of_le, le_of_suc-le-suc, not-suc-le-zero, le_refl}
use borrow.Author.Tests.{le-leb, lt-leb}
use Rattle.fraction.proofs.Scale.{cases}
use Rattle.critical.specs.Rows.{Row, pace, holder, plan_of, behind}

-- m rows follow each other without gap, each with at least one report
pub record Follow (m : ℕ) (rows : ℕ → Row) : Type 0 where
  pub follows : (k : ℕ) → k < m → (rows k).first ≡ behind rows k
  pub holds : (k : ℕ) → k < m → (rows k).first ≤ (rows k).last

-- report i is in row k of m rows
pub record InRow (m : ℕ) (rows : ℕ → Row) (i k : ℕ) : Type 0 where
  pub row : k < m
  pub from : (rows k).first ≤ i
  pub upto : i ≤ (rows k).last

module _ (rows : ℕ → Row) where
  -- what stands behind a row is behind its last report
  pub behind_suc : (k : ℕ) → behind rows (suc k) ≡ suc (rows k).last
  unfolding behind
  behind_suc k = refl

  pub behind_zero : behind rows zero ≡ zero
  unfolding behind
  behind_zero = refl

module _ (m : ℕ) (rows : ℕ → Row) (fl : Follow m rows) where
  -- later rows begin further on
  pub behind_mono : (k n : ℕ) → k ≤ n → n ≤ m → behind rows k ≤ behind rows n
  behind_mono k zero h l = let e : k ≡ zero = omega arith in rw e (le_refl (behind rows zero))
  behind_mono k (suc n) h l =
      ⊎_elim (λ (e : k ≡ suc n). rw e (le_refl (behind rows (suc n))))
      (λ x. omega (arith, behind_mono k n (le_of_suc-le-suc x) (omega arith), behind_suc rows n, fl.follows n l, fl.holds n l)) (eq-or-lt_of_le h)

  -- there are no more rows than reports
  pub few_rows : (n : ℕ) → n ≤ m → n ≤ behind rows n
  few_rows zero l = omega arith
  few_rows (suc n) l = omega (arith, few_rows n (omega arith), behind_suc rows n, fl.follows n l, fl.holds n l)

  -- every report before the end is in a row
  pub row_of : (n i : ℕ) → n ≤ m → i < behind rows n → (k : ℕ) × InRow m rows i k
  row_of zero i l h = absurd (omega (arith, behind_zero rows))
  row_of (suc n) i l h =
      cases i (behind rows n) (λ x. row_of n i (omega arith) x)
      (λ x. (n, record { row = l; from = omega (arith, fl.follows n l); upto = omega (arith, behind_suc rows n) }))

  -- and in one only
  holder_at : (n i k : ℕ) → n ≤ m → k < n → (rows k).first ≤ i → i ≤ (rows k).last → holder rows n i ≡ k
  unfolding holder
  holder_at zero i k l h a b = absurd (not-suc-le-zero h)
  holder_at (suc n) i k l h a b =
      ⊎_elim
      (λ (e : k ≡ n). ap (λ t. cond t n (holder rows n i)) (le-leb (rows n).first i (subst (λ (x : ℕ). (rows x).first ≤ i) e a)) ∙ sym e)
      (λ x. ap (λ t. cond t n (holder rows n i)) (lt-leb (rows n).first i (omega (arith, fl.follows n l, behind_mono (suc k) n x (omega arith), behind_suc rows k)))
      ∙ holder_at n i k (omega arith) x a b)
      (eq-or-lt_of_le (le_of_suc-le-suc h))

  -- so a report has the pace of its row
  pub plan_in_row : (i k : ℕ) → InRow m rows i k → plan_of m rows i ≡ pace (rows k)
  plan_in_row i k h = ap (λ (x : ℕ). pace (rows x)) (holder_at m i k (le_refl m) h.row h.from h.upto)
