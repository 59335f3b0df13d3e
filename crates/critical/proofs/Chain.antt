-- A chain of blocks found one behind the other, and that it is `Critical` (DESIGN 4.4).
-- Assumes nothing.
use Prim.Native.Nat.{ℕ, zero, suc, ◌≤◌, ◌<◌, max}
use mathlib.Core.Path.{◌≡◌, refl, sym, ◌∙◌, ap, subst}
use mathlib.Core.Logic.{⊎_elim}
use native.Mathlib.Omega.{arith}
use native.Mathlib.Nat.{eq-or-lt_of_le, le_of_suc-le-suc, le_refl}
use Rattle.fraction.specs.Fraction.{Fraction, ◌≼◌, ◌≺◌, ◌≈◌, whole}
use Rattle.fraction.proofs.Scale.{max_high, max_low}
use Rattle.fraction.proofs.Order.{≼_refl, ≼_trans, ≈_refl, ≈_trans, ≈_≼, ≈_≽, ≺_≼, ≺_≼_absurd, whole_≼, ≼_whole, later_≈, later_whole, positive_up}
use Rattle.critical.specs.Reports.{Reports, Paces, Working, Positive, start, finish, Allowed}
use Rattle.critical.specs.Rows.{Row, pace, plan_of, behind, Busy, Critical}
use Rattle.critical.proofs.Lines.{sum_mono}
use Rattle.critical.proofs.Runs.{along}
use Rattle.critical.proofs.Room.{Roomy}
use Rattle.critical.proofs.Search.{Stretch, stretch_end, stretch_later, floor_in, Found, Ending, at_deadline, at_arrival, way, way_end, Ready, ready_on, leads_slower, leads_faster}
use Rattle.critical.proofs.Cover.{Follow, InRow, behind_zero, behind_suc, row_of, plan_in_row}

-- where row k of a chain starts: the first at its arrival, each other at the later of its first report's arrival and the end of the row before
unfoldable pub begins : Reports → (ℕ → Row) → ℕ → ℕ
begins ℓ rows zero = ℓ.arrival zero
begins ℓ rows (suc k) = max (ℓ.arrival (suc (rows k).last)) (rows k).end

-- a row that the search found from time s and report p on
pub record Link (ℓ : Reports) (fastest : Fraction) (s p : ℕ) (r : Row) : Type 0 where
  pub first : r.first ≡ p
  pub start : r.start ≡ s
  pub stretch : ℕ
  pub is : Stretch ℓ r.first stretch
  pub found : Found ℓ fastest stretch r

-- m rows, each found behind the one before
abbrev pub Chain : Reports → Fraction → ℕ → (ℕ → Row) → Type 0
Chain ℓ f m rows = (k : ℕ) → k < m → Link ℓ f (begins ℓ rows k) (behind rows k) (rows k)

-- ---- a chain grows by a row behind it
module _ (ℓ : Reports) (f : Fraction) (m : ℕ) (rows rows' : ℕ → Row) (same : (k : ℕ) → k < m → rows k ≡ rows' k) where
  begins_same : (k : ℕ) → k ≤ m → begins ℓ rows k ≡ begins ℓ rows' k
  unfolding begins
  begins_same zero h = refl
  begins_same (suc k) h = ap (λ (r : Row). max (ℓ.arrival (suc r.last)) r.end) (same k h)

  pub behind_same : (k : ℕ) → k ≤ m → behind rows k ≡ behind rows' k
  unfolding behind
  behind_same zero h = refl
  behind_same (suc k) h = ap (λ (r : Row). suc r.last) (same k h)

  pub chain_same : Chain ℓ f m rows → Chain ℓ f m rows'
  chain_same c k x = rw (← begins_same k (omega arith), ← behind_same k (omega arith), ← same k x) (c k x)

  pub chain_more : Chain ℓ f m rows → Link ℓ f (begins ℓ rows m) (behind rows m) (rows' m) → Chain ℓ f (suc m) rows'
  chain_more c l k h =
      ⊎_elim (λ (e : k ≡ m). rw (e, ← begins_same m (le_refl m), ← behind_same m (le_refl m)) l)
      (λ x. chain_same c k x) (eq-or-lt_of_le (le_of_suc-le-suc h))

-- ---- what stands behind a row: the stretch goes on and the next row starts at this row's end, or there is idle time
module _ (ℓ : Reports) (f : Fraction) (s p : ℕ) (r : Row) (l : Link ℓ f s p r) where
  abbrev k : ℕ
  k = l.stretch

  abbrev a : ℕ
  a = ℓ.arrival (suc r.last)

  goes_on : r.last < k → a ≤ ℓ.deadline r.last
  goes_on h = l.is.joined r.last l.found.ordered h

  at_end : r.last < k → max a r.end ≡ r.end
  at_end h = max_high (reached l.found.ending)
    where
      reached : Ending ℓ k r → a ≤ r.end
      reached (at_deadline e v) = omega (arith, goes_on h)
      reached (at_arrival b e v) = omega arith

  -- a row that ends its stretch ends at its deadline
  closes : r.last ≡ k → r.end ≡ ℓ.deadline r.last
  closes e = go l.found.ending
    where
      go : Ending ℓ k r → r.end ≡ ℓ.deadline r.last
      go (at_deadline x v) = x
      go (at_arrival b x v) = absurd (omega arith)

  idles : r.last ≡ k → suc r.last < ℓ.count → ℓ.deadline r.last < a
  idles e h = subst (λ (x : ℕ). ℓ.deadline x < ℓ.arrival (suc x)) (sym e) (l.is.closed (subst (λ (x : ℕ). suc x < ℓ.count) e h))

  -- the next search is ready
  pub ready_behind : Roomy ℓ f → 0 < ℓ.operations r.first → (m : ℕ) → Stretch ℓ (suc r.last) m → Ready ℓ f (max a r.end) (suc r.last) m
  ready_behind roomy working m st =
      ⊎_elim
      (λ (e : r.last ≡ k). let x : max a r.end ≡ a = max_low (omega (arith, closes e, idles e (omega (arith, st.from, st.on_list)))) in
      λ j h n. rw x (roomy (suc r.last) j h (omega (arith, st.on_list))))
      (λ h. let e : k ≡ m = stretch_end ℓ (suc r.last) k m (stretch_later ℓ r.first (suc r.last) k l.is (omega (arith, l.found.ordered)) h) st in
      rw (at_end h) (subst (λ (n : ℕ). Ready ℓ f r.end (suc r.last) n) e (ready_on ℓ f k r l.found working roomy r.first l.is l.found.ordered h)))
      (eq-or-lt_of_le l.found.within)

-- ---- how one row leads into the next: over idle time, into a slower row at its deadline, or into a faster one at the next arrival
pub data Turn (ℓ : Reports) (r r' : Row) : Type 0 where
  idle : ℓ.deadline r.last < ℓ.arrival (suc r.last) → r.end ≡ ℓ.deadline r.last → Turn ℓ r r'
  rises : r.end ≡ ℓ.deadline r.last → pace r ≺ pace r' → Turn ℓ r r'
  falls : r.end ≡ ℓ.arrival (suc r.last) → pace r' ≺ pace r → Turn ℓ r r'

module _ (ℓ : Reports) (f : Fraction) (m : ℕ) (rows : ℕ → Row) (ch : Chain ℓ f m rows) where
  follow : Follow m rows
  follow = record {
    follows = λ k h. (ch k h).first;
    holds = λ k h. (ch k h).found.ordered;
  }

  next_first : (k : ℕ) → suc k < m → (rows (suc k)).first ≡ suc (rows k).last
  next_first k h = (ch (suc k) h).first ∙ behind_suc rows k

  next_start : (k : ℕ) → suc k < m → (rows (suc k)).start ≡ max (ℓ.arrival (suc (rows k).last)) (rows k).end
  unfolding begins
  next_start k h = (ch (suc k) h).start

  module _ (working : Working ℓ) where
    on_list : (k : ℕ) → k < m → (rows k).last < ℓ.count
    on_list k h = omega (arith, (ch k h).found.within, (ch k h).is.on_list)

    works : (k : ℕ) → k < m → 0 < ℓ.operations (rows k).first
    works k h = working (rows k).first (omega (arith, (ch k h).found.ordered, on_list k h))

    pub turn : (k : ℕ) → suc k < m → Turn ℓ (rows k) (rows (suc k))
    turn k h = ⊎_elim over_idle inside (eq-or-lt_of_le l.found.within)
      where
        l : Link ℓ f (begins ℓ rows k) (behind rows k) (rows k)
        l = ch k (omega arith)

        l' : Link ℓ f (begins ℓ rows (suc k)) (behind rows (suc k)) (rows (suc k))
        l' = ch (suc k) h

        over_idle : (rows k).last ≡ l.stretch → Turn ℓ (rows k) (rows (suc k))
        over_idle e =
            idle (idles ℓ f (begins ℓ rows k) (behind rows k) (rows k) l e (omega (arith, next_first k h, l'.found.ordered, on_list (suc k) h)))
            (closes ℓ f (begins ℓ rows k) (behind rows k) (rows k) l e)

        inside : (rows k).last < l.stretch → Turn ℓ (rows k) (rows (suc k))
        inside x = go l.found.ending
          where
            e : l'.stretch ≡ l.stretch
            e =
                stretch_end ℓ (rows (suc k)).first l'.stretch l.stretch l'.is
                (rw (next_first k h) (stretch_later ℓ (rows k).first (suc (rows k).last) l.stretch l.is (omega (arith, l.found.ordered)) x))

            joins : (rows (suc k)).start ≡ (rows k).end
            joins = next_start k h ∙ at_end ℓ f (begins ℓ rows k) (behind rows k) (rows k) l x

            fd' : Found ℓ f l.stretch (rows (suc k))
            fd' = subst (λ (n : ℕ). Found ℓ f n (rows (suc k))) e l'.found

            go : Ending ℓ l.stretch (rows k) → Turn ℓ (rows k) (rows (suc k))
            go (at_deadline d v) =
                rises d
                (leads_slower ℓ f (rows k).first l.stretch l.is (rows k) (rows (suc k)) l.found fd' (works k (omega arith)) (works (suc k) h) l.found.ordered (next_first k h) joins (v x))
            go (at_arrival b d v) =
                falls d
                (leads_faster ℓ f (rows k).first l.stretch l.is (rows k) (rows (suc k)) l.found fd' (works k (omega arith)) (works (suc k) h) l.found.ordered (next_first k h) joins v)

    -- ---- starts and finishes under the plan of the rows
    abbrev T : Paces
    T = plan_of m rows

    in_row : (k j : ℕ) → k < m → (rows k).first ≤ j → j ≤ (rows k).last → T j ≡ pace (rows k)
    in_row k j h a b = plan_in_row m rows follow j k (record { row = h; from = a; upto = b })

    module _ (k : ℕ) (h : k < m) (st : start ℓ T (rows k).first ≈ whole (rows k).start) where
      -- a report inside the row does not wait
      no_wait : (j : ℕ) → (rows k).first ≤ j → j < (rows k).last → whole (ℓ.arrival (suc j)) ≼ way ℓ (rows k) j
      no_wait j a b =
          let l = ch k h in
          subst (λ (x : ℕ). whole x ≼ way ℓ (rows k) j) (floor_in ℓ l.stretch j (omega (arith, l.found.within))) (l.found.above j a (omega arith))

      -- so the row's finishes are on its line
      on_way : (j : ℕ) → (rows k).first ≤ j → j ≤ (rows k).last → finish ℓ T j ≈ way ℓ (rows k) j
      on_way = along ℓ (rows k).start (rows k).first (pace (rows k)) T (rows k).last (λ j a b. in_row k j h a b) st no_wait

      ends_at : finish ℓ T (rows k).last ≈ whole (rows k).end
      ends_at = ≈_trans (on_way (rows k).last (ch k h).found.ordered (le_refl (rows k).last)) (way_end ℓ f (ch k h).stretch (rows k) (ch k h).found (works k h))

    starts_at : (k : ℕ) → k < m → start ℓ T (rows k).first ≈ whole (rows k).start
    unfolding start begins
    starts_at zero h = rw ((ch zero h).first ∙ behind_zero rows, (ch zero h).start) (≈_refl (whole (ℓ.arrival zero)))
    starts_at (suc k) h =
        rw (next_first k h, next_start k h)
        (≈_trans (later_≈ (≈_refl (whole (ℓ.arrival (suc (rows k).last)))) (ends_at k (omega arith) (starts_at k (omega arith)))) (later_whole (ℓ.arrival (suc (rows k).last)) (rows k).end))

    -- ---- so the rows are `Critical`
    module _ (pos : Positive f) (all : behind rows m ≡ ℓ.count) where
      on_line : (i k : ℕ) → InRow m rows i k → finish ℓ T i ≈ way ℓ (rows k) i
      on_line i k h = on_way k h.row (starts_at k h.row) i h.from h.upto

      end_of : (k : ℕ) → k < m → finish ℓ T (rows k).last ≈ whole (rows k).end
      end_of k h = ends_at k h (starts_at k h)

      place : (i : ℕ) → i < ℓ.count → (k : ℕ) × InRow m rows i k
      place i h = row_of m rows follow m i (le_refl m) (subst (λ (n : ℕ). i < n) (sym all) h)

      -- the last report of a row is followed by the first of the next
      goes_on_to : (k : ℕ) → k < m → suc (rows k).last < ℓ.count → suc k < m
      goes_on_to k h l = ⊎_elim (λ (e : suc k ≡ m). absurd (omega (arith, behind_suc rows k, ap (behind rows) e, all))) (λ x. x) (eq-or-lt_of_le h)

      -- a statement of neighbours, by where they stand: inside a row, or where one row leads into the next
      neighbours :
          (P : ℕ → Type 0) → ((i k : ℕ) → InRow m rows i k → i < (rows k).last → P i) →
          ((k : ℕ) → suc k < m → Turn ℓ (rows k) (rows (suc k)) → P (rows k).last) → (i : ℕ) → suc i < ℓ.count → P i
      neighbours P inside between i h =
          let r = place i (omega arith) in
          let k : ℕ = r.0 in
          ⊎_elim (λ (e : i ≡ (rows k).last).
          let n : suc k < m = goes_on_to k r.1.row (subst (λ (x : ℕ). suc x < ℓ.count) e h) in
          subst P (sym e) (between k n (turn k n)))
          (λ x. inside i k r.1 x) (eq-or-lt_of_le r.1.upto)

      pub allowed : Allowed ℓ f T
      allowed = record {
        keeps = record {
          positive = λ i h. let r = place i h in subst Positive (sym (plan_in_row m rows follow i r.0 r.1)) (positive_up (ch r.0 r.1.row).found.enough pos);
          in_time = λ i h. let r = place i h in ≼_trans (≈_≼ (on_line i r.0 r.1)) ((ch r.0 r.1.row).found.below i r.1.from r.1.upto);
        };
        no_faster = λ i h. let r = place i h in subst (λ (t : Fraction). f ≼ t) (sym (plan_in_row m rows follow i r.0 r.1)) (ch r.0 r.1.row).found.enough;
      }

      -- the paces of two neighbours, inside a row and where one row leads into the next
      pace_last : (k : ℕ) → k < m → T (rows k).last ≡ pace (rows k)
      pace_last k h = in_row k (rows k).last h (ch k h).found.ordered (le_refl (rows k).last)

      pace_next : (k : ℕ) → suc k < m → T (suc (rows k).last) ≡ pace (rows (suc k))
      pace_next k h =
          in_row (suc k) (suc (rows k).last) h (omega (arith, next_first k h)) (omega (arith, next_first k h, (ch (suc k) h).found.ordered))

      one_pace : (i k : ℕ) → InRow m rows i k → i < (rows k).last → T i ≡ T (suc i)
      one_pace i k h l = in_row k i h.row h.from h.upto ∙ sym (in_row k (suc i) h.row (omega (arith, h.from)) l)

      -- a row's end, as the finish of its last report
      ends_by : (k x : ℕ) → k < m → (rows k).end ≡ x → finish ℓ T (rows k).last ≈ whole x
      ends_by k x h e = subst (λ (y : ℕ). finish ℓ T (rows k).last ≈ whole y) e (end_of k h)

      -- no idle time contradicts idle time
      not_idle : (k x : ℕ) → k < m → (rows k).end ≡ x → Busy ℓ T (rows k).last → ℓ.arrival (suc (rows k).last) ≤ x
      not_idle k x h e b = ≼_whole (ℓ.arrival (suc (rows k).last)) x (≼_trans b (≈_≼ (ends_by k x h e)))

      one_idle : (i : ℕ) → suc i < ℓ.count → ℓ.deadline i < ℓ.arrival (suc i) → finish ℓ T i ≈ whole (ℓ.deadline i)
      one_idle =
          neighbours (λ i. ℓ.deadline i < ℓ.arrival (suc i) → finish ℓ T i ≈ whole (ℓ.deadline i))
          (λ i k h l g. absurd (omega (arith, (ch k h.row).is.joined i h.from (omega (arith, (ch k h.row).found.within)))))
          between
        where
          between :
              (k : ℕ) → suc k < m → Turn ℓ (rows k) (rows (suc k)) → ℓ.deadline (rows k).last < ℓ.arrival (suc (rows k).last) →
              finish ℓ T (rows k).last ≈ whole (ℓ.deadline (rows k).last)
          between k h (idle x e) g = ends_by k (ℓ.deadline (rows k).last) (omega arith) e
          between k h (rises e x) g = ends_by k (ℓ.deadline (rows k).last) (omega arith) e
          between k h (falls e x) g =
              absurd
              (omega (
                arith,
                ≼_whole (ℓ.arrival (suc (rows k).last)) (ℓ.deadline (rows k).last)
                    (≼_trans (≈_≽ (ends_by k (ℓ.arrival (suc (rows k).last)) (omega arith) e)) (allowed.keeps.in_time (rows k).last (on_list k (omega arith)))),
              ))

      one_busy : (i : ℕ) → suc i < ℓ.count → ℓ.arrival (suc i) ≤ ℓ.deadline i → Busy ℓ T i
      one_busy =
          neighbours (λ i. ℓ.arrival (suc i) ≤ ℓ.deadline i → Busy ℓ T i)
          (λ i k h l g. ≼_trans (no_wait k h.row (starts_at k h.row) i h.from l) (≈_≽ (on_line i k h))) between
        where
          between :
              (k : ℕ) → suc k < m → Turn ℓ (rows k) (rows (suc k)) → ℓ.arrival (suc (rows k).last) ≤ ℓ.deadline (rows k).last →
              Busy ℓ T (rows k).last
          between k h (idle x e) g = absurd (omega arith)
          between k h (rises e x) g = ≼_trans (whole_≼ g) (≈_≽ (ends_by k (ℓ.deadline (rows k).last) (omega arith) e))
          between k h (falls e x) g = ≈_≽ (ends_by k (ℓ.arrival (suc (rows k).last)) (omega arith) e)

      two : (i : ℕ) → suc i < ℓ.count → Busy ℓ T i → T i ≺ T (suc i) → finish ℓ T i ≈ whole (ℓ.deadline i)
      two =
          neighbours (λ i. Busy ℓ T i → T i ≺ T (suc i) → finish ℓ T i ≈ whole (ℓ.deadline i))
          (λ i k h l b x. absurd (≺_≼_absurd x (rw (← one_pace i k h l) (≼_refl (T i))))) between
        where
          between :
              (k : ℕ) → suc k < m → Turn ℓ (rows k) (rows (suc k)) → Busy ℓ T (rows k).last →
              T (rows k).last ≺ T (suc (rows k).last) → finish ℓ T (rows k).last ≈ whole (ℓ.deadline (rows k).last)
          between k h (idle x e) b y = ends_by k (ℓ.deadline (rows k).last) (omega arith) e
          between k h (rises e x) b y = ends_by k (ℓ.deadline (rows k).last) (omega arith) e
          between k h (falls e x) b y = absurd (≺_≼_absurd y (rw (pace_last k (omega arith), pace_next k h) (≺_≼ x)))

      three : (i : ℕ) → suc i < ℓ.count → Busy ℓ T i → T (suc i) ≺ T i → finish ℓ T i ≈ whole (ℓ.arrival (suc i))
      three =
          neighbours (λ i. Busy ℓ T i → T (suc i) ≺ T i → finish ℓ T i ≈ whole (ℓ.arrival (suc i)))
          (λ i k h l b x. absurd (≺_≼_absurd x (rw (← one_pace i k h l) (≼_refl (T i))))) between
        where
          between :
              (k : ℕ) → suc k < m → Turn ℓ (rows k) (rows (suc k)) → Busy ℓ T (rows k).last →
              T (suc (rows k).last) ≺ T (rows k).last → finish ℓ T (rows k).last ≈ whole (ℓ.arrival (suc (rows k).last))
          between k h (idle x e) b y = absurd (omega (arith, not_idle k (ℓ.deadline (rows k).last) (omega arith) e b))
          between k h (rises e x) b y = absurd (≺_≼_absurd y (rw (pace_last k (omega arith), pace_next k h) (≺_≼ x)))
          between k h (falls e x) b y = ends_by k (ℓ.arrival (suc (rows k).last)) (omega arith) e

      four : (i : ℕ) → suc i ≡ ℓ.count → finish ℓ T i ≈ whole (ℓ.deadline i)
      four i e =
          let r = place i (omega arith) in
          let k : ℕ = r.0 in
          let h : k < m = r.1.row in
          let l : (rows k).last ≡ i = omega (arith, r.1.upto, on_list k h) in
          subst (λ (x : ℕ). finish ℓ T x ≈ whole (ℓ.deadline x)) l
          (ends_by k (ℓ.deadline (rows k).last) h
          (closes ℓ f (begins ℓ rows k) (behind rows k) (rows k) (ch k h) (omega (arith, r.1.upto, (ch k h).found.within, (ch k h).is.on_list))))

      longest : (k : ℕ) → suc k < m → Busy ℓ T (rows k).last → pace (rows k) ≈ pace (rows (suc k)) → ⊥
      longest k h b e = go (turn k h)
        where
          go : Turn ℓ (rows k) (rows (suc k)) → ⊥
          go (idle x y) = omega (arith, not_idle k (ℓ.deadline (rows k).last) (omega arith) y b)
          go (rises y x) = ≺_≼_absurd x (≈_≽ e)
          go (falls y x) = ≺_≼_absurd x (≈_≼ e)

      pub chain_critical : Critical ℓ f m rows
      chain_critical = record {
        follows = follow.follows;
        holds = follow.holds;
        covers = all;
        works = λ k h. omega (arith, (ch k h).found.works, sum_mono ℓ.operations (rows k).first (suc (rows k).last) (omega (arith, (ch k h).found.ordered)));
        starts = starts_at;
        ends = end_of;
        plan = record {
          allowed = allowed;
          one_idle = one_idle;
          one_busy = one_busy;
          two = two;
          three = three;
          four = four;
        };
        longest = longest;
      }
