-- Tests that compute: a statement with a Bool that is true exactly when it bit, for each connective, and so for `Critical`.
-- Assumes nothing.
use Prim.Native.Nat.{ℕ, zero, suc, ◌+◌, ◌*◌, ◌≤◌, ◌<◌}
use mathlib.Core.Path.{◌≡◌, sym, subst}
use mathlib.Core.Bool.{Bool, true, false, not, ◌&&◌}
use mathlib.Core.Logic.{⊎_elim}
use native.Mathlib.Omega.{arith}
use native.Mathlib.Nat.{eq-or-lt_of_le, le_of_suc-le-suc, not-suc-le-zero, lt-suc_self}
use lib.Dec.{T, leb, ltb, eqb, leb→le, le→leb, ltb→lt, lt→ltb, eqb→eq, eqb_refl, T_not, not_T}
use Rattle.fraction.specs.Fraction.{Fraction, ◌≼◌, ◌≺◌, ◌≈◌, whole}
use Rattle.critical.specs.Reports.{Reports, Paces, start, finish, Allowed}
use Rattle.critical.specs.Rows.{Row, pace, plan_of, behind, sum, Busy, CriticalPlan, Critical}

-- a statement that can be tested
pub record Test (P : Type 0) : Type 0 where
  pub bit : Bool
  pub sound : T bit → P
  pub complete : P → T bit

-- the same test for an equivalent statement
abbrev pub test_as : {P Q : Type 0} → (P → Q) → (Q → P) → Test P → Test Q
test_as f g t = record { bit = t.bit; sound = λ h. f (t.sound h); complete = λ q. t.complete (g q) }

-- ---- numbers
abbrev pub test_le : (m n : ℕ) → Test (m ≤ n)
test_le m n = record { bit = leb m n; sound = leb→le m n; complete = le→leb m n }

abbrev pub test_lt : (m n : ℕ) → Test (m < n)
test_lt m n = record { bit = ltb m n; sound = ltb→lt m n; complete = lt→ltb m n }

abbrev pub test_eq : (m n : ℕ) → Test (m ≡ n)
test_eq m n = record { bit = eqb m n; sound = eqb→eq m n; complete = λ e. subst (λ (k : ℕ). T (eqb m k)) e (eqb_refl m) }

-- ---- fractions
abbrev pub test_≼ : (f g : Fraction) → Test (f ≼ g)
test_≼ f g = test_as (λ h. record { cross = h }) (λ h. h.cross) (test_le (f.num * g.den) (g.num * f.den))

abbrev pub test_≺ : (f g : Fraction) → Test (f ≺ g)
test_≺ f g = test_as (λ h. record { cross = h }) (λ h. h.cross) (test_lt (f.num * g.den) (g.num * f.den))

abbrev pub test_≈ : (f g : Fraction) → Test (f ≈ g)
test_≈ f g = test_as (λ h. record { cross = h }) (λ h. h.cross) (test_eq (f.num * g.den) (g.num * f.den))

-- ---- connectives
pub and_left : (a b : Bool) → T (a && b) → T a
and_left true b t = tt
and_left false b t = t

pub and_right : (a b : Bool) → T (a && b) → T b
and_right true b t = t
and_right false b t = absurd t

pub and_both : (a b : Bool) → T a → T b → T (a && b)
and_both true b s t = t
and_both false b s t = s

abbrev pub test_and : {P Q : Type 0} → Test P → Test Q → Test (P × Q)
test_and p q = record {
  bit = p.bit && q.bit;
  sound = λ t. (p.sound (and_left p.bit q.bit t), q.sound (and_right p.bit q.bit t));
  complete = λ h. and_both p.bit q.bit (p.complete h.0) (q.complete h.1);
}

abbrev pub only_if : Bool → Bool → Bool
only_if true b = b
only_if false b = true

pub only_if_sound : (a b : Bool) → T (only_if a b) → T a → T b
only_if_sound true b t s = t
only_if_sound false b t s = absurd s

pub only_if_complete : (a b : Bool) → (T a → T b) → T (only_if a b)
only_if_complete true b f = f tt
only_if_complete false b f = tt

abbrev pub test_if : {P Q : Type 0} → Test P → Test Q → Test (P → Q)
test_if p q = record {
  bit = only_if p.bit q.bit;
  sound = λ t h. q.sound (only_if_sound p.bit q.bit t (p.complete h));
  complete = λ f. only_if_complete p.bit q.bit (λ s. q.complete (f (p.sound s)));
}

abbrev pub test_not : {P : Type 0} → Test P → Test (P → ⊥)
test_not p = record {
  bit = not p.bit;
  sound = λ t h. T_not p.bit t (p.complete h);
  complete = λ f. not_T p.bit (λ s. f (p.sound s));
}

-- every number below n
abbrev pub all : (ℕ → Bool) → ℕ → Bool
all p zero = true
all p (suc n) = p n && all p n

pub all_sound : (p : ℕ → Bool) (n : ℕ) → T (all p n) → (i : ℕ) → i < n → T (p i)
all_sound p zero t i h = absurd (not-suc-le-zero h)
all_sound p (suc n) t i h =
    ⊎_elim (λ (e : i ≡ n). subst (λ (x : ℕ). T (p x)) (sym e) (and_left (p n) (all p n) t)) (λ l. all_sound p n (and_right (p n) (all p n) t) i l)
    (eq-or-lt_of_le (le_of_suc-le-suc h))

pub all_complete : (p : ℕ → Bool) (n : ℕ) → ((i : ℕ) → i < n → T (p i)) → T (all p n)
all_complete p zero f = tt
all_complete p (suc n) f = and_both (p n) (all p n) (f n (lt-suc_self n)) (all_complete p n (λ i h. f i (omega arith)))

abbrev pub test_below : (n : ℕ) {P : ℕ → Type 0} → ((i : ℕ) → Test (P i)) → Test ((i : ℕ) → i < n → P i)
test_below n f = record {
  bit = all (λ i. (f i).bit) n;
  sound = λ t i h. (f i).sound (all_sound (λ j. (f j).bit) n t i h);
  complete = λ g. all_complete (λ j. (f j).bit) n (λ i h. (f i).complete (g i h));
}

-- every number whose successor is below n: neighbours
abbrev pub test_pairs : (n : ℕ) {P : ℕ → Type 0} → ((i : ℕ) → Test (P i)) → Test ((i : ℕ) → suc i < n → P i)
test_pairs n f = test_as (λ g i h. g i (omega arith) h) (λ g i _ h. g i h) (test_below n (λ i. test_if (test_lt (suc i) n) (f i)))

-- the last number below n
abbrev pub test_last : (n : ℕ) {P : ℕ → Type 0} → ((i : ℕ) → Test (P i)) → Test ((i : ℕ) → suc i ≡ n → P i)
test_last n f = test_as (λ g i e. g i (omega arith) e) (λ g i _ e. g i e) (test_below n (λ i. test_if (test_eq (suc i) n) (f i)))

-- ---- plans and rows
module _ (ℓ : Reports) (fastest : Fraction) (P : Paces) where
  abbrev pub test_allowed : Test (Allowed ℓ fastest P)
  test_allowed =
      test_as
      (λ h. record { keeps = record { positive = h.0; in_time = h.1.0 }; no_faster = h.1.1 })
      (λ a. (a.keeps.positive, (a.keeps.in_time, a.no_faster)))
      (test_and (test_below ℓ.count (λ i. test_lt 0 (P i).num))
      (test_and (test_below ℓ.count (λ i. test_≼ (finish ℓ P i) (whole (ℓ.deadline i)))) (test_below ℓ.count (λ i. test_≼ fastest (P i)))))

  abbrev pub test_busy : (i : ℕ) → Test (Busy ℓ P i)
  test_busy i = test_≼ (whole (ℓ.arrival (suc i))) (finish ℓ P i)

  abbrev pub ends_at : (i x : ℕ) → Test (finish ℓ P i ≈ whole x)
  ends_at i x = test_≈ (finish ℓ P i) (whole x)

  abbrev pub test_critical_plan : Test (CriticalPlan ℓ fastest P)
  test_critical_plan =
      test_as
      (λ h. record { allowed = h.0; one_idle = h.1.0; one_busy = h.1.1.0; two = h.1.1.1.0; three = h.1.1.1.1.0; four = h.1.1.1.1.1 })
      (λ c. (c.allowed, (c.one_idle, (c.one_busy, (c.two, (c.three, c.four))))))
      (test_and test_allowed
      (test_and (test_pairs ℓ.count (λ i. test_if (test_lt (ℓ.deadline i) (ℓ.arrival (suc i))) (ends_at i (ℓ.deadline i))))
      (test_and (test_pairs ℓ.count (λ i. test_if (test_le (ℓ.arrival (suc i)) (ℓ.deadline i)) (test_busy i)))
      (test_and (test_pairs ℓ.count (λ i. test_if (test_busy i) (test_if (test_≺ (P i) (P (suc i))) (ends_at i (ℓ.deadline i)))))
      (test_and (test_pairs ℓ.count (λ i. test_if (test_busy i) (test_if (test_≺ (P (suc i)) (P i)) (ends_at i (ℓ.arrival (suc i))))))
      (test_last ℓ.count (λ i. ends_at i (ℓ.deadline i))))))))

abbrev pub test_critical : (ℓ : Reports) (fastest : Fraction) (m : ℕ) (rows : ℕ → Row) → Test (Critical ℓ fastest m rows)
test_critical ℓ fastest m rows =
    test_as
    (λ h. record { follows = h.0; holds = h.1.0; covers = h.1.1.0; works = h.1.1.1.0; starts = h.1.1.1.1.0; ends = h.1.1.1.1.1.0; plan = h.1.1.1.1.1.1.0; longest = h.1.1.1.1.1.1.1 })
    (λ c. (c.follows, (c.holds, (c.covers, (c.works, (c.starts, (c.ends, (c.plan, c.longest))))))))
    (test_and (test_below m (λ k. test_eq (rows k).first (behind rows k)))
    (test_and (test_below m (λ k. test_le (rows k).first (rows k).last))
    (test_and (test_eq (behind rows m) ℓ.count)
    (test_and (test_below m (λ k. test_eq (sum ℓ.operations (rows k).first + (rows k).operations) (sum ℓ.operations (suc (rows k).last))))
    (test_and (test_below m (λ k. test_≈ (start ℓ (plan_of m rows) (rows k).first) (whole (rows k).start)))
    (test_and (test_below m (λ k. test_≈ (finish ℓ (plan_of m rows) (rows k).last) (whole (rows k).end)))
    (test_and (test_critical_plan ℓ fastest (plan_of m rows))
    (test_pairs m (λ k. test_if (test_busy ℓ fastest (plan_of m rows) (rows k).last) (test_not (test_≈ (pace (rows k)) (pace (rows (suc k))))))))))))))
