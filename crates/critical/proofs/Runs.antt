-- A run of reports at one pace, against the straight line of that pace: it is never before the line, and on it exactly while no report waits.
-- Assumes nothing.
use Prim.Native.Nat.{ℕ, zero, suc, ◌≤◌, ◌<◌}
use mathlib.Core.Path.{◌≡◌, subst}
use mathlib.Core.Logic.{⊎_elim}
use native.Mathlib.Omega.{arith}
use native.Mathlib.Nat.{eq-or-lt_of_le, le_of_suc-le-suc, le_refl}
use Rattle.fraction.specs.Fraction.{Fraction, ◌≼◌, ◌≺◌, ◌≈◌, whole, plus, times}
use Rattle.fraction.proofs.Order.{≼_refl, ≼_trans, ≼_≺_trans, ≺_≼_trans, ≈_refl, ≈_sym, ≈_trans, ≈_≼, ≈_≽, ≺_≼_absurd, split, plus_≼, plus_≺, plus_≈, later_right, ≼_later_left, ≼_later_right}
use Rattle.critical.specs.Reports.{Reports, Paces, start, finish}
use Rattle.critical.specs.Rows.{Busy}
use Rattle.critical.proofs.Lines.{span, span_one, span_more, line, line_more}

-- a report starts no sooner than its arrival, and no sooner than the finish before it
pub arrives : (ℓ : Reports) (T : Paces) (i : ℕ) → whole (ℓ.arrival i) ≼ start ℓ T i
unfolding start
arrives ℓ T zero = ≼_refl (whole (ℓ.arrival zero))
arrives ℓ T (suc i) = ≼_later_left (whole (ℓ.arrival (suc i))) (finish ℓ T i)

pub waits : (ℓ : Reports) (T : Paces) (i : ℕ) → finish ℓ T i ≼ start ℓ T (suc i)
unfolding start
waits ℓ T i = ≼_later_right (whole (ℓ.arrival (suc i))) (finish ℓ T i)

-- without idle time the next report starts at the finish
pub starts_on : (ℓ : Reports) (T : Paces) (i : ℕ) → Busy ℓ T i → start ℓ T (suc i) ≈ finish ℓ T i
unfolding start
starts_on ℓ T i h = later_right h

-- ---- the line from time s through the reports from p on, at pace t
module _ (ℓ : Reports) (s p : ℕ) (t : Fraction) where
  abbrev w : ℕ → ℕ
  w = ℓ.operations

  abbrev on : ℕ → Fraction
  on j = line s t (span w p j)

  -- at the first report, and one report further
  pub on_first : on p ≈ plus (whole s) (times (w p) t)
  unfolding line
  on_first = rw span_one (≈_refl (plus (whole s) (times (w p) t)))

  pub on_more : (j : ℕ) → p ≤ j → on (suc j) ≈ plus (on j) (times (w (suc j)) t)
  on_more j h = rw (span_more w p j h) (≈_sym (line_more s t (span w p j) (w (suc j))))

  module _ (T : Paces) (q : ℕ) (one : (j : ℕ) → p ≤ j → j ≤ q → T j ≡ t) where
    -- a statement of the run's reports, from the first to the last
    each : (P : ℕ → Type 0) → (p ≤ q → P p) → ((j : ℕ) → p ≤ j → suc j ≤ q → P j → P (suc j)) → (j : ℕ) → p ≤ j → j ≤ q → P j
    each P base step zero a b = let e : p ≡ zero = omega arith in subst P e (base (omega arith))
    each P base step (suc j) a b =
        ⊎_elim (λ (e : p ≡ suc j). subst P e (base (omega arith))) (λ x. step j (le_of_suc-le-suc x) b (each P base step j (le_of_suc-le-suc x) (omega arith))) (eq-or-lt_of_le a)

    -- a report of the run adds its operations at the run's pace
    adds : (j : ℕ) → p ≤ j → j ≤ q → finish ℓ T j ≈ plus (start ℓ T j) (times (w j) t)
    adds j a b = subst (λ (u : Fraction). finish ℓ T j ≈ plus (start ℓ T j) (times (w j) u)) (one j a b) (≈_refl (finish ℓ T j))

    -- the run is never before the line
    pub never_before : whole s ≼ start ℓ T p → (j : ℕ) → p ≤ j → j ≤ q → on j ≼ finish ℓ T j
    never_before h =
        each (λ j. on j ≼ finish ℓ T j)
        (λ b. ≼_trans (≈_≼ on_first) (≼_trans (plus_≼ h (≼_refl (times (w p) t))) (≈_≽ (adds p (le_refl p) b))))
        (λ j a b k. ≼_trans (≈_≼ (on_more j a)) (≼_trans (plus_≼ (≼_trans k (waits ℓ T j)) (≼_refl (times (w (suc j)) t))) (≈_≽ (adds (suc j) (omega arith) b))))

    -- while the line meets every next arrival, no report waits and the run is on the line
    pub along : start ℓ T p ≈ whole s → ((j : ℕ) → p ≤ j → j < q → whole (ℓ.arrival (suc j)) ≼ on j) → (j : ℕ) → p ≤ j → j ≤ q → finish ℓ T j ≈ on j
    along h meets =
        each (λ j. finish ℓ T j ≈ on j)
        (λ b. ≈_trans (adds p (le_refl p) b) (≈_trans (plus_≈ h (≈_refl (times (w p) t))) (≈_sym on_first)))
        (λ j a b k. ≈_trans (adds (suc j) (omega arith) b)
        (≈_trans (plus_≈ (≈_trans (starts_on ℓ T j (≼_trans (meets j a b) (≈_≽ k))) k) (≈_refl (times (w (suc j)) t))) (≈_sym (on_more j a))))

    -- once a report has waited, the run is behind the line
    behind : whole s ≼ start ℓ T p → (i : ℕ) → p ≤ i → finish ℓ T i ≺ whole (ℓ.arrival (suc i)) → (j : ℕ) → i < j → j ≤ q → on j ≺ finish ℓ T j
    behind h i a x zero l b = absurd (omega arith)
    behind h i a x (suc j) l b =
        let late : on j ≺ start ℓ T (suc j) =
        ⊎_elim (λ (e : i ≡ j). ≼_≺_trans (never_before h j (omega arith) (omega arith)) (≺_≼_trans (subst (λ (y : ℕ). finish ℓ T y ≺ whole (ℓ.arrival (suc y))) e x) (arrives ℓ T (suc j))))
        (λ m. ≺_≼_trans (behind h i a x j m (omega arith)) (waits ℓ T j)) (eq-or-lt_of_le (le_of_suc-le-suc l)) in
        ≼_≺_trans (≈_≼ (on_more j (omega arith))) (≺_≼_trans (plus_≺ late (≼_refl (times (w (suc j)) t))) (≈_≽ (adds (suc j) (omega arith) b)))

    -- so a run that ends on the line has no idle time
    pub no_idle : whole s ≼ start ℓ T p → finish ℓ T q ≼ on q → (i : ℕ) → p ≤ i → i < q → Busy ℓ T i
    no_idle h e i a l = split (finish ℓ T i) (whole (ℓ.arrival (suc i))) (λ x. absurd (≺_≼_absurd (behind h i a x q l (le_refl q)) e)) (λ x. x)
