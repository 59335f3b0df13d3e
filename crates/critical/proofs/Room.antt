-- When there is a plan: the pass at the fastest pace, and room.
-- Assumes nothing.
use Prim.Native.Nat.{ℕ, zero, suc, ◌≤◌, ◌<◌}
use mathlib.Core.Path.{◌≡◌, refl, sym, ap, subst}
use mathlib.Core.Logic.{◌⊎◌, inl, inr, ⊎_elim}
use native.Mathlib.Omega.{arith}
use native.Mathlib.Nat.{eq-or-lt_of_le, le_of_suc-le-suc, not-suc-le-zero, le_refl}
use Rattle.fraction.specs.Fraction.{Fraction, ◌≼◌, ◌≺◌, ◌≈◌, whole, plus, times, later}
use Rattle.fraction.proofs.Order.{≼_refl, ≼_trans, ≈_refl, ≈_≼, ≈_sym, ≈_trans, ≺_≼, ≺_≼_absurd, split, plus_≼, plus_≈, times_≼, later_≼, later_left, later_right}
use Rattle.critical.specs.Reports.{Reports, Paces, first_of, Positive, start, finish, Plannable, FirstWithout, steady}
use Rattle.critical.proofs.Lines.{span, line}
use Rattle.critical.proofs.Runs.{arrives, on_first, on_more, never_before}

-- ---- starts and finishes
-- the faster of two plans starts and finishes no later
module _ (ℓ : Reports) {T U : Paces} {n : ℕ} (faster : (i : ℕ) → i < n → T i ≼ U i) where
  pub start_≼ : (i : ℕ) → i ≤ n → start ℓ T i ≼ start ℓ U i
  unfolding start
  start_≼ zero h = ≼_refl (whole (ℓ.arrival zero))
  start_≼ (suc i) h =
      later_≼ (≼_refl (whole (ℓ.arrival (suc i)))) (plus_≼ (start_≼ i (omega arith)) (times_≼ (ℓ.operations i) (faster i h)))

  pub finish_≼ : (i : ℕ) → i < n → finish ℓ T i ≼ finish ℓ U i
  finish_≼ i h = plus_≼ (start_≼ i (omega arith)) (times_≼ (ℓ.operations i) (faster i h))

-- the first n reports by themselves start and finish as on the whole list
pub start_first : (ℓ : Reports) (T : Paces) (n i : ℕ) → start (first_of n ℓ) T i ≡ start ℓ T i
unfolding start
start_first ℓ T n zero = refl
start_first ℓ T n (suc i) =
    ap (λ (s : Fraction). later (whole (ℓ.arrival (suc i))) (plus s (times (ℓ.operations i) (T i)))) (start_first ℓ T n i)

pub finish_first : (ℓ : Reports) (T : Paces) (n i : ℕ) → finish (first_of n ℓ) T i ≡ finish ℓ T i
finish_first ℓ T n i = ap (λ (s : Fraction). plus s (times (ℓ.operations i) (T i))) (start_first ℓ T n i)

-- an allowed plan is one for the first reports too
pub shorter : (ℓ : Reports) (f : Fraction) (n : ℕ) → n ≤ ℓ.count → Plannable ℓ f → Plannable (first_of n ℓ) f
shorter ℓ f n h p = (
  p.0,
  record {
    keeps = record {
      positive = λ i l. p.1.keeps.positive i (omega arith);
      in_time = λ i l. subst (λ (x : Fraction). x ≼ whole (ℓ.deadline i)) (sym (finish_first ℓ p.0 n i)) (p.1.keeps.in_time i (omega arith));
    };
    no_faster = λ i l. p.1.no_faster i (omega arith);
  },
)

-- ---- the pass at the fastest pace
-- report i is timely: at the fastest pace throughout, it finishes in time
abbrev pub Timely : Reports → Fraction → ℕ → Type 0
Timely ℓ f i = finish ℓ (steady f) i ≼ whole (ℓ.deadline i)

-- the first n reports are
abbrev pub TimelyTo : Reports → Fraction → ℕ → Type 0
TimelyTo ℓ f n = (i : ℕ) → i < n → Timely ℓ f i

-- one report more
pub timely_more : (ℓ : Reports) (f : Fraction) (n : ℕ) → TimelyTo ℓ f n → Timely ℓ f n → TimelyTo ℓ f (suc n)
timely_more ℓ f n k g i s = ⊎_elim (λ (e : i ≡ n). subst (Timely ℓ f) (sym e) g) (λ l. k i l) (eq-or-lt_of_le (le_of_suc-le-suc s))

module _ (ℓ : Reports) (f : Fraction) where
  -- any allowed plan finishes no sooner than the fastest
  pub plan_timely : (n : ℕ) → Plannable (first_of n ℓ) f → TimelyTo ℓ f n
  plan_timely n p i h =
      ≼_trans (finish_≼ ℓ p.1.no_faster i h)
      (subst (λ (x : Fraction). x ≼ whole (ℓ.deadline i)) (finish_first ℓ p.0 n i) (p.1.keeps.in_time i h))

  module _ (pos : Positive f) where
    -- where the pass holds, the fastest pace is an allowed plan
    pub timely_plan : (n : ℕ) → TimelyTo ℓ f n → Plannable (first_of n ℓ) f
    timely_plan n k = (
      steady f,
      record {
        keeps = record {
          positive = λ i h. pos;
          in_time = λ i h. subst (λ (x : Fraction). x ≼ whole (ℓ.deadline i)) (sym (finish_first ℓ (steady f) n i)) (k i h);
        };
        no_faster = λ i h. ≼_refl f;
      },
    )

    -- the pass stops at the first report without a plan, and nowhere else
    pub stops_first : (i : ℕ) → i < ℓ.count → TimelyTo ℓ f i → whole (ℓ.deadline i) ≺ finish ℓ (steady f) i → FirstWithout ℓ f i
    stops_first i h k l = record {
      on_list = h;
      without = λ p. ≺_≼_absurd l (plan_timely (suc i) p i (le_refl (suc i)));
      least = λ j s. timely_plan (suc j) (λ m e. k m (omega arith));
    }

    pub first_timely : (i : ℕ) → FirstWithout ℓ f i → TimelyTo ℓ f i
    first_timely i w j s = plan_timely (suc j) (w.least j s) j (le_refl (suc j))

    pub first_stops : (i : ℕ) → FirstWithout ℓ f i → whole (ℓ.deadline i) ≺ finish ℓ (steady f) i
    first_stops i w =
        split (whole (ℓ.deadline i)) (finish ℓ (steady f) i) (λ l. l)
        (λ g. absurd (w.without (timely_plan (suc i) (timely_more ℓ f i (first_timely i w) g))))

    -- the pass decides: it holds at the first n reports, or stops at one of them
    pub runs : (n : ℕ) → n ≤ ℓ.count → TimelyTo ℓ f n ⊎ ((i : ℕ) × FirstWithout ℓ f i)
    runs zero h = inl (λ i k. absurd (not-suc-le-zero k))
    runs (suc n) h =
        ⊎_elim
        (λ (k : TimelyTo ℓ f n). split (whole (ℓ.deadline n)) (finish ℓ (steady f) n) (λ l. inr (n, stops_first n h k l)) (λ g. inl (timely_more ℓ f n k g)))
        inr (runs n (omega arith))

-- ---- room
-- a list is roomy: from any report's arrival, at the fastest pace, the reports to any later one are done by its deadline
abbrev pub Roomy : Reports → Fraction → Type 0
Roomy ℓ f = (i j : ℕ) → i ≤ j → j < ℓ.count → line (ℓ.arrival i) f (span ℓ.operations i j) ≼ whole (ℓ.deadline j)

module _ (ℓ : Reports) (f : Fraction) where
  -- the line from report i's arrival at the fastest pace
  abbrev run : ℕ → ℕ → Fraction
  run i j = line (ℓ.arrival i) f (span ℓ.operations i j)

  -- the fastest plan is no sooner than the line from any arrival
  pub no_sooner : (i j : ℕ) → i ≤ j → run i j ≼ finish ℓ (steady f) j
  no_sooner i j h = never_before ℓ (ℓ.arrival i) i f (steady f) j (λ k a b. refl) (arrives ℓ (steady f) i) j h (le_refl j)

  -- and it is on one of those lines: that from the last report that waited for nothing
  pub on_a_run : (j : ℕ) → (i : ℕ) × (i ≤ j) × (finish ℓ (steady f) j ≈ run i j)
  unfolding start
  on_a_run zero = (zero, le_refl zero, ≈_sym (on_first ℓ (ℓ.arrival zero) zero f))
  on_a_run (suc j) =
      split (whole (ℓ.arrival (suc j))) (finish ℓ (steady f) j)
      (λ l.
      let r = on_a_run j in
      (r.0, omega (arith, r.1), ≈_trans (plus_≈ (≈_trans (later_right (≺_≼ l)) r.2) (≈_refl (times (ℓ.operations (suc j)) f))) (≈_sym (on_more ℓ (ℓ.arrival r.0) r.0 f j r.1))))
      (λ g. (suc j, le_refl (suc j), ≈_trans (plus_≈ (later_left g) (≈_refl (times (ℓ.operations (suc j)) f))) (≈_sym (on_first ℓ (ℓ.arrival (suc j)) (suc j) f))))

  -- the pass holds throughout exactly when the list is roomy
  pub timely_roomy : TimelyTo ℓ f ℓ.count → Roomy ℓ f
  timely_roomy k i j h l = ≼_trans (no_sooner i j h) (k j l)

  pub roomy_timely : Roomy ℓ f → TimelyTo ℓ f ℓ.count
  roomy_timely r j l = let o = on_a_run j in ≼_trans (≈_≼ o.2) (r o.0 j o.1 l)
