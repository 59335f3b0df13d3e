-- At most one list of rows is `Critical`.
-- Assumes nothing.
use Prim.Native.Nat.{ℕ, zero, suc, ◌≤◌, ◌<◌}
use mathlib.Core.Path.{◌≡◌, sym, ◌∙◌, ap, subst}
use mathlib.Core.Logic.{⊎_elim}
use native.Mathlib.Omega.{arith}
use native.Mathlib.Nat.{eq-or-lt_of_le, le_refl}
use Rattle.fraction.specs.Fraction.{Fraction, ◌≈◌, whole, over}
use Rattle.fraction.proofs.Scale.{cases}
use Rattle.fraction.proofs.Order.{≼_trans, ≈_refl, ≈_sym, ≈_trans, ≈_≼, ≈_≽, ≈_whole, plus_≈, times_≈, later_≈}
use Rattle.critical.specs.Reports.{Reports, Paces, Working, Positive, start, finish}
use Rattle.critical.specs.Rows.{Row, pace, plan_of, behind, sum, Busy, Critical}
use Rattle.critical.proofs.Lines.{span, span_pos, line, line_end}
use Rattle.critical.proofs.Runs.{no_idle}
use Rattle.critical.proofs.Least.{one_plan}
use Rattle.critical.proofs.Cover.{Follow, behind_mono, behind_zero, behind_suc, plan_in_row}

-- equal paces give equal starts and finishes
module _ (ℓ : Reports) (T U : Paces) (n : ℕ) (same : (i : ℕ) → i < n → T i ≈ U i) where
  pub start_≈ : (i : ℕ) → i ≤ n → start ℓ T i ≈ start ℓ U i
  unfolding start
  start_≈ zero h = ≈_refl (whole (ℓ.arrival zero))
  start_≈ (suc i) h = later_≈ (≈_refl (whole (ℓ.arrival (suc i)))) (plus_≈ (start_≈ i (omega arith)) (times_≈ (ℓ.operations i) (same i h)))

  pub finish_≈ : (i : ℕ) → i < n → finish ℓ T i ≈ finish ℓ U i
  finish_≈ i h = plus_≈ (start_≈ i (omega arith)) (times_≈ (ℓ.operations i) (same i h))

-- ---- inside a row of `Critical` rows there is no idle time
module _ (ℓ : Reports) (f : Fraction) (m : ℕ) (rows : ℕ → Row) (c : Critical ℓ f m rows) where
  abbrev T : Paces
  T = plan_of m rows

  pub follow : Follow m rows
  follow = record { follows = c.follows; holds = c.holds }

  pub last_on_list : (k : ℕ) → k < m → (rows k).last < ℓ.count
  last_on_list k h = omega (arith, behind_mono m rows follow (suc k) m h (le_refl m), behind_suc rows k, c.covers)

  pub in_row : (k i : ℕ) → k < m → (rows k).first ≤ i → i ≤ (rows k).last → T i ≡ pace (rows k)
  in_row k i h a b = plan_in_row m rows follow i k (record { row = h; from = a; upto = b })

  module _ (working : Working ℓ) (k : ℕ) (h : k < m) where
    abbrev way : ℕ → Fraction
    way j = line (rows k).start (pace (rows k)) (span ℓ.operations (rows k).first j)

    first_on_list : (rows k).first < ℓ.count
    first_on_list = omega (arith, c.holds k h, last_on_list k h)

    first_working : 0 < ℓ.operations (rows k).first
    first_working = working (rows k).first first_on_list

    -- a pace that is positive, so the row's end is behind its start
    forward : (rows k).start ≤ (rows k).end
    unfolding over
    forward =
        let p : Positive (pace (rows k)) = subst Positive (in_row k (rows k).first h (le_refl (rows k).first) (c.holds k h)) (c.plan.allowed.keeps.positive (rows k).first first_on_list) in
        omega (arith, p)

    way_end : way (rows k).last ≈ whole (rows k).end
    way_end =
        let e : (rows k).operations ≡ span ℓ.operations (rows k).first (rows k).last = omega (arith, c.works k h) in
        subst (λ (n : ℕ). line (rows k).start (pace (rows k)) n ≈ whole (rows k).end) e
        (line_end (rows k).start (rows k).end (rows k).operations forward (omega (arith, span_pos ℓ.operations (rows k).first (rows k).last first_working (c.holds k h))))

    -- the row ends on its line, so no report of it waits
    pub busy_inside : (i : ℕ) → (rows k).first ≤ i → i < (rows k).last → Busy ℓ T i
    busy_inside =
        no_idle ℓ (rows k).start (rows k).first (pace (rows k)) T (rows k).last (λ j a b. in_row k j h a b) (≈_≽ (c.starts k h))
        (≼_trans (≈_≼ (c.ends k h)) (≈_≽ way_end))

-- rows of five equal numbers
pub row_≡ :
    (r r' : Row) → r.first ≡ r'.first → r.last ≡ r'.last → r.start ≡ r'.start → r.end ≡ r'.end →
    r.operations ≡ r'.operations → r ≡ r'
row_≡ r r' a b c d e = λ i. record { first = a i; last = b i; start = c i; end = d i; operations = e i }

-- ---- two lists of `Critical` rows
module _ (ℓ : Reports) (working : Working ℓ) (f f' : Fraction) (m m' : ℕ) (rows rows' : ℕ → Row) (c : Critical ℓ f m rows) (c' : Critical ℓ f' m' rows') where
  same : (i : ℕ) → i < ℓ.count → plan_of m rows i ≈ plan_of m' rows' i
  same = one_plan ℓ f f' (plan_of m rows) (plan_of m' rows') working c.plan c'.plan

  -- rows that begin at one report: neither is the shorter, for its run could be longer
  no_longer : (k : ℕ) → k < m → k < m' → (rows k).first ≡ (rows' k).first → (rows' k).last ≤ (rows k).last
  no_longer k h h' e = cases (rows k).last (rows' k).last (λ x. absurd (shorter x)) (λ x. x)
    where
      i : ℕ
      i = (rows k).last

      shorter : (rows k).last < (rows' k).last → ⊥
      shorter x = c.longest k more busy (subst (λ (t : Fraction). t ≈ pace (rows (suc k))) (in_row ℓ f m rows c k i h (c.holds k h) (le_refl i)) one_pace)
        where
          on : i < ℓ.count
          on = omega (arith, last_on_list ℓ f' m' rows' c' k h')

          next : suc i < ℓ.count
          next = omega (arith, last_on_list ℓ f' m' rows' c' k h')

          more : suc k < m
          more = ⊎_elim (λ (y : suc k ≡ m). absurd (omega (arith, behind_suc rows k, ap (behind rows) y, c.covers, next))) (λ y. y) (eq-or-lt_of_le h)

          from : (rows' k).first ≤ i
          from = omega (arith, c.holds k h)

          busy : Busy ℓ (plan_of m rows) i
          busy =
              ≼_trans (busy_inside ℓ f' m' rows' c' working k h' i from x)
              (≈_≽ (finish_≈ ℓ (plan_of m rows) (plan_of m' rows') ℓ.count same i on))

          -- in the longer row the two reports have one pace
          alike : plan_of m' rows' i ≡ plan_of m' rows' (suc i)
          alike = in_row ℓ f' m' rows' c' k i h' from (omega arith) ∙ sym (in_row ℓ f' m' rows' c' k (suc i) h' (omega (arith, from)) x)

          at_next : plan_of m rows (suc i) ≡ pace (rows (suc k))
          at_next =
              in_row ℓ f m rows c (suc k) (suc i) more (omega (arith, c.follows (suc k) more, behind_suc rows k))
              (omega (arith, c.follows (suc k) more, behind_suc rows k, c.holds (suc k) more))

          one_pace : plan_of m rows i ≈ pace (rows (suc k))
          one_pace =
              subst (λ (t : Fraction). plan_of m rows i ≈ t) at_next
              (≈_trans (same i on) (≈_trans (subst (λ (t : Fraction). plan_of m' rows' i ≈ t) alike (≈_refl (plan_of m' rows' i))) (≈_sym (same (suc i) next))))

module _ (ℓ : Reports) (working : Working ℓ) (f f' : Fraction) (m m' : ℕ) (rows rows' : ℕ → Row) (c : Critical ℓ f m rows) (c' : Critical ℓ f' m' rows') where
  -- a row is fixed by the report that it begins with
  same_row : (k : ℕ) → k < m → k < m' → behind rows k ≡ behind rows' k → rows k ≡ rows' k
  same_row k h h' e = row_≡ (rows k) (rows' k) first last start_same end_same (omega (arith, c.works k h, c'.works k h', ap (sum ℓ.operations) first, ap (λ (x : ℕ). sum ℓ.operations (suc x)) last))
    where
      T : Paces
      T = plan_of m rows

      U : Paces
      U = plan_of m' rows'

      first : (rows k).first ≡ (rows' k).first
      first = c.follows k h ∙ e ∙ sym (c'.follows k h')

      last : (rows k).last ≡ (rows' k).last
      last = omega (arith, no_longer ℓ working f f' m m' rows rows' c c' k h h' first, no_longer ℓ working f' f m' m rows' rows c' c k h' h (sym first))

      on : (rows k).last < ℓ.count
      on = last_on_list ℓ f m rows c k h

      start_same : (rows k).start ≡ (rows' k).start
      start_same =
          ≈_whole (rows k).start (rows' k).start
          (≈_trans (≈_sym (c.starts k h)) (≈_trans (start_≈ ℓ (plan_of m rows) (plan_of m' rows') ℓ.count (same ℓ working f f' m m' rows rows' c c') (rows k).first (omega (arith, c.holds k h, on)))
          (subst (λ (x : ℕ). start ℓ (plan_of m' rows') x ≈ whole (rows' k).start) (sym first) (c'.starts k h'))))

      end_same : (rows k).end ≡ (rows' k).end
      end_same =
          ≈_whole (rows k).end (rows' k).end
          (≈_trans (≈_sym (c.ends k h)) (≈_trans (finish_≈ ℓ (plan_of m rows) (plan_of m' rows') ℓ.count (same ℓ working f f' m m' rows rows' c c') (rows k).last on)
          (subst (λ (x : ℕ). finish ℓ (plan_of m' rows') x ≈ whole (rows' k).end) (sym last) (c'.ends k h'))))

  agree : (k : ℕ) → k ≤ m → k ≤ m' → behind rows k ≡ behind rows' k
  agree zero h h' = behind_zero rows ∙ sym (behind_zero rows')
  agree (suc k) h h' = behind_suc rows k ∙ ap (λ (r : Row). suc r.last) (same_row k h h' (agree k (omega arith) (omega arith))) ∙ sym (behind_suc rows' k)

  pub one_row : (k : ℕ) → k < m → k < m' → rows k ≡ rows' k
  one_row k h h' = same_row k h h' (agree k (omega arith) (omega arith))

  -- the shorter list covers all, so the longer has no more
  no_fewer : m < m' → ⊥
  no_fewer h =
      omega (arith, agree m (le_refl m) (omega arith), c.covers, c'.follows m h, c'.holds m h, last_on_list ℓ f' m' rows' c' m h)

pub one_count :
    (ℓ : Reports) → Working ℓ → (f f' : Fraction) (m m' : ℕ) (rows rows' : ℕ → Row) → Critical ℓ f m rows →
    Critical ℓ f' m' rows' → m ≡ m'
one_count ℓ working f f' m m' rows rows' c c' =
    cases m m' (λ h. absurd (no_fewer ℓ working f f' m m' rows rows' c c' h))
    (λ h. ⊎_elim (λ (e : m' ≡ m). sym e) (λ l. absurd (no_fewer ℓ working f' f m' m rows' rows c' c l)) (eq-or-lt_of_le h))
