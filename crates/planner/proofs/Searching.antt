-- The laws that the proofs of `search` cite: what one step of the code does to what the search keeps (critical's Search.antt), in the code's numbers.
-- Assumes nothing.
use Rattle.std.proofs.Common.{◌≡◌, ℕ, suc, ◌+◌, ◌-◌, ◌*◌, ◌<◌, ◌≤◌, Bool, true, false, cond, ltb, List, length, sym, refl, ap, ◌∙◌, subst, ap₂, ⊎_elim, le_refl, le_of_suc-le-suc, eq-or-lt_of_le, add-one, arith, ltb-false, ltb-true}
use Rattle.fraction.specs.Fraction.{Fraction, ◌≼◌, ◌≺◌, over}
use Rattle.fraction.proofs.Order.{over_≺, over_≽}
use Rattle.critical.specs.Reports.{Reports, list_of}
use Rattle.critical.proofs.Lines.{span, span_one, span_more, span_pos, sum_bound}
use Rattle.critical.proofs.Best.{Best, ◌≻◌, ◌≽◌, up, down, best_keep, best_take}
use Rattle.critical.proofs.Search.{Stretch, Scan, floor, floor_in, floor_end, stretch_from, high, low, scan_first, scan_more, finds_rise, finds_fall, finds_whole}
use Rattle.rules.specs.Leaves.{Fair}
use Rattle.planner.specs.Inside.{reports_in, mark, Joins, FloorIs, MarkIs, KeptIn, KeptIs, Weighed, EndIs}
use Rattle.planner.specs.declared.search.Mark.{Mark}
use Rattle.planner.specs.declared.search.Kept.{Kept}
use Rattle.planner.specs.declared.search.Search.{Search}

-- the mark that a choice by `if` leaves
pub keeps : {b : Bool} {m h : Mark} (n : Mark) → b ≡ true → h ≡ m → h ≡ cond b m n
keeps n e f = rw e f

pub takes : {b : Bool} {n h : Mark} (m : Mark) → b ≡ false → h ≡ n → h ≡ cond b m n
takes m e f = rw e f

-- ---- marks
-- a mark's pace
abbrev pace_of : Mark → Fraction
pace_of m = over m.pace.ticks m.pace.operations

module _ (ℓ : Reports) (s p : ℕ) (some : 0 < ℓ.operations p) where
  mark_pace : (time : ℕ → ℕ) (m : Mark) → MarkIs ℓ s p time m → pace_of m ≡ over (time m.at - s) (span ℓ.operations p m.at)
  mark_pace time m i = ap₂ over i.ticks_are i.operations_are

  mark_works : (time : ℕ → ℕ) (m : Mark) → MarkIs ℓ s p time m → p ≤ m.at → 0 < m.pace.operations
  mark_works time m i h = subst (λ (n : ℕ). 0 < n) (sym i.operations_are) (span_pos ℓ.operations p m.at some h)

  -- what a comparison of two marks says
  module _ (x y : ℕ → ℕ) (a b : Mark) (ia : MarkIs ℓ s p x a) (ib : MarkIs ℓ s p y b) (fa : p ≤ a.at) (fb : p ≤ b.at) where
    is_below : ltb (a.pace.ticks * b.pace.operations) (b.pace.ticks * a.pace.operations) ≡ true → over (x a.at - s) (span ℓ.operations p a.at) ≺ over (y b.at - s) (span ℓ.operations p b.at)
    is_below e =
        rw (← mark_pace x a ia, ← mark_pace y b ib)
        (over_≺ a.pace.ticks a.pace.operations b.pace.ticks b.pace.operations (mark_works x a ia fa) (mark_works y b ib fb) (ltb-true _ _ e))

    not_below : ltb (a.pace.ticks * b.pace.operations) (b.pace.ticks * a.pace.operations) ≡ false → over (y b.at - s) (span ℓ.operations p b.at) ≼ over (x a.at - s) (span ℓ.operations p a.at)
    not_below e =
        rw (← mark_pace x a ia, ← mark_pace y b ib)
        (over_≽ a.pace.ticks a.pace.operations b.pace.ticks b.pace.operations (mark_works x a ia fa) (mark_works y b ib fb) (ltb-false _ _ e))

  -- ---- report kept.next, with its marks
  module _ (kept : Kept) (hj lj : Mark) (wd : Weighed ℓ s p kept hj lj) where
    abbrev k : ℕ
    k = wd.k

    abbrev j : ℕ
    j = kept.next

    ki : KeptIn ℓ s p wd.k kept
    ki = wd.kept_in

    sc : Scan ℓ s p wd.k kept.next kept.high.at kept.low.at
    sc = wd.kept_in.scan

    from_h : p ≤ kept.high.at
    from_h = sc.least.from

    from_l : p ≤ kept.low.at
    from_l = sc.greatest.from

    from_j : p ≤ kept.next
    from_j = omega (arith, sc.least.from, sc.least.before)

    from_hj : p ≤ hj.at
    from_hj = omega (arith, from_j, wd.high_at)

    from_lj : p ≤ lj.at
    from_lj = omega (arith, from_j, wd.low_at)

    pub ends_by_rise : ltb (kept.high.pace.ticks * lj.pace.operations) (lj.pace.ticks * kept.high.pace.operations) ≡ true → EndIs ℓ s p (record { last = kept.high.at; time = ℓ.deadline kept.high.at; operations = kept.high.pace.operations })
    ends_by_rise e = record {
      k = wd.k;
      stretch = ki.stretch;
      on = omega (arith, sc.least.before, wd.on);
      from = from_h;
      operations_are = ki.high_is.operations_are;
      found = λ f rd. finds_rise ℓ f s p wd.k ki.stretch some rd kept.next kept.high.at kept.low.at sc wd.on
          (subst (λ (i : ℕ). high ℓ s p kept.high.at ≺ low ℓ s p wd.k i) wd.low_at (is_below ℓ.deadline (floor ℓ wd.k) kept.high lj ki.high_is wd.low_is from_h from_lj e));
    }

    pub ends_by_fall : ltb (hj.pace.ticks * kept.low.pace.operations) (kept.low.pace.ticks * hj.pace.operations) ≡ true → EndIs ℓ s p (record { last = kept.low.at; time = ℓ.arrival (kept.low.at + 1); operations = kept.low.pace.operations })
    ends_by_fall e = rw (add-one kept.low.at) (record {
      k = wd.k;
      stretch = ki.stretch;
      on = omega (arith, sc.greatest.before, wd.on);
      from = from_l;
      operations_are = ki.low_is.operations_are;
      found = λ f rd. finds_fall ℓ f s p wd.k ki.stretch some rd kept.next kept.high.at kept.low.at sc wd.on
          (subst (λ (i : ℕ). high ℓ s p i ≺ low ℓ s p wd.k kept.low.at) wd.high_at (is_below ℓ.deadline (floor ℓ wd.k) hj kept.low wd.high_is ki.low_is from_hj from_l e));
    })

    -- the last of the best, after the choice that the code makes
    next_high : (b : Bool) → ltb (kept.high.pace.ticks * hj.pace.operations) (hj.pace.ticks * kept.high.pace.operations) ≡ b → Best ◌≺◌ ◌≼◌ (high ℓ s p) p (suc kept.next) (cond b kept.high hj).at
    next_high true e =
        best_keep up (high ℓ s p) p kept.next kept.high.at sc.least
        (subst (λ (i : ℕ). high ℓ s p kept.high.at ≺ high ℓ s p i) wd.high_at (is_below ℓ.deadline ℓ.deadline kept.high hj ki.high_is wd.high_is from_h from_hj e))
    next_high false e =
        subst (Best ◌≺◌ ◌≼◌ (high ℓ s p) p (suc kept.next)) (sym wd.high_at)
        (best_take up (high ℓ s p) p kept.next kept.high.at sc.least
        (subst (λ (i : ℕ). high ℓ s p i ≼ high ℓ s p kept.high.at) wd.high_at (not_below ℓ.deadline ℓ.deadline kept.high hj ki.high_is wd.high_is from_h from_hj e)))

    next_low : (b : Bool) → ltb (lj.pace.ticks * kept.low.pace.operations) (kept.low.pace.ticks * lj.pace.operations) ≡ b → Best ◌≻◌ ◌≽◌ (low ℓ s p wd.k) p (suc kept.next) (cond b kept.low lj).at
    next_low true e =
        best_keep down (low ℓ s p wd.k) p kept.next kept.low.at sc.greatest
        (subst (λ (i : ℕ). low ℓ s p wd.k i ≺ low ℓ s p wd.k kept.low.at) wd.low_at (is_below (floor ℓ wd.k) (floor ℓ wd.k) lj kept.low wd.low_is ki.low_is from_lj from_l e))
    next_low false e =
        subst (Best ◌≻◌ ◌≽◌ (low ℓ s p wd.k) p (suc kept.next)) (sym wd.low_at)
        (best_take down (low ℓ s p wd.k) p kept.next kept.low.at sc.greatest
        (subst (λ (i : ℕ). low ℓ s p wd.k kept.low.at ≼ low ℓ s p wd.k i) wd.low_at (not_below (floor ℓ wd.k) (floor ℓ wd.k) lj kept.low wd.low_is ki.low_is from_lj from_l e)))

    either : (time : ℕ → ℕ) (b : Bool) (m n : Mark) → MarkIs ℓ s p time m → MarkIs ℓ s p time n → MarkIs ℓ s p time (cond b m n)
    either time true m n i o = i
    either time false m n i o = o

    abbrev keep_high : Bool
    keep_high = ltb (kept.high.pace.ticks * hj.pace.operations) (hj.pace.ticks * kept.high.pace.operations)

    abbrev keep_low : Bool
    keep_low = ltb (lj.pace.ticks * kept.low.pace.operations) (kept.low.pace.ticks * lj.pace.operations)

    pub goes_on :
        ltb (kept.high.pace.ticks * lj.pace.operations) (lj.pace.ticks * kept.high.pace.operations) ≡ false →
        ltb (hj.pace.ticks * kept.low.pace.operations) (kept.low.pace.ticks * hj.pace.operations) ≡ false →
        KeptIs ℓ s p (record {
          next = kept.next + 1;
          sum = hj.pace.operations;
          high = cond (ltb (kept.high.pace.ticks * hj.pace.operations) (hj.pace.ticks * kept.high.pace.operations)) kept.high hj;
          low = cond (ltb (lj.pace.ticks * kept.low.pace.operations) (kept.low.pace.ticks * lj.pace.operations)) kept.low lj;
        })
    goes_on x y = rw (add-one kept.next) (record {
      k = wd.k;
      kept_in = record {
        stretch = ki.stretch;
        scan = scan_more ℓ s p wd.k ki.stretch kept.next kept.high.at kept.low.at sc _ _ wd.on
            (subst (λ (i : ℕ). low ℓ s p wd.k i ≼ high ℓ s p kept.high.at) wd.low_at (not_below ℓ.deadline (floor ℓ wd.k) kept.high lj ki.high_is wd.low_is from_h from_lj x))
            (subst (λ (i : ℕ). low ℓ s p wd.k kept.low.at ≼ high ℓ s p i) wd.high_at (not_below ℓ.deadline (floor ℓ wd.k) hj kept.low wd.high_is ki.low_is from_hj from_l y))
            (next_high keep_high refl) (next_low keep_low refl);
        high_is = either ℓ.deadline keep_high kept.high hj ki.high_is wd.high_is;
        low_is = either (floor ℓ wd.k) keep_low kept.low lj ki.low_is wd.low_is;
        sum_is = wd.high_is.operations_are ∙ ap (span ℓ.operations p) (wd.high_at ∙ before_next);
        upto = omega (arith, wd.on);
      };
    })
      where
        before_next : kept.next ≡ suc kept.next - 1
        before_next = omega arith

    -- the same for the marks that the code has chosen
    pub goes_on_with :
        (h' l' : Mark) →
        ltb (kept.high.pace.ticks * lj.pace.operations) (lj.pace.ticks * kept.high.pace.operations) ≡ false →
        ltb (hj.pace.ticks * kept.low.pace.operations) (kept.low.pace.ticks * hj.pace.operations) ≡ false →
        h' ≡ cond keep_high kept.high hj → l' ≡ cond keep_low kept.low lj →
        KeptIs ℓ s p (record { next = kept.next + 1; sum = hj.pace.operations; high = h'; low = l' })
    goes_on_with h' l' x y f g = rw (f, g) (goes_on x y)

-- ---- the stretch, seen from the lists
module _ (xs ys ws : List ℕ) (fair : Fair xs ys ws) where
  abbrev ℓ : Reports
  ℓ = list_of xs ys ws

  -- the operations of a run are few enough for 32 bits
  pub span_small : (p j : ℕ) → j < length xs → span ℓ.operations p j ≤ 65535 * suc j
  span_small p j h = omega (arith, sum_bound ℓ.operations 65535 (suc j) (λ i k. fair.work i (omega arith)))

  -- a stretch's first report works
  pub works_at : (p k : ℕ) → Stretch ℓ p k → 0 < ℓ.operations p
  works_at p k st = fair.some p (omega (arith, st.from, st.on_list))

  -- inside a stretch two reports join, at its end they do not
  joins_inside : (p k j : ℕ) → Stretch ℓ p k → p ≤ j → j < k → Joins xs ys j
  joins_inside p k j st h l = record { on = omega (arith, st.on_list); meets = st.joined j h l }

  joins_not : (p k : ℕ) → Stretch ℓ p k → Joins xs ys k → ⊥
  joins_not p k st m = omega (arith, st.closed m.on, m.meets)

  -- the floor that the code finds is the stretch's
  pub floor_is : (p k j r : ℕ) → Stretch ℓ p k → p ≤ j → j ≤ k → FloorIs xs ys j r → r ≡ floor ℓ k j
  floor_is p k j r st h l f =
      ⊎_elim (λ (e : j ≡ k). f.apart (λ m. joins_not p k st (subst (Joins xs ys) e m)) ∙ sym (floor_end ℓ k j (omega arith)))
      (λ m. f.joined (joins_inside p k j st h m) ∙ sym (floor_in ℓ k j m)) (eq-or-lt_of_le l)

  module _ (s p : ℕ) (kept : Kept) where
    -- the reports taken so far, seen from the last of them
    last_taken : (k : ℕ) → KeptIn ℓ s p k kept → suc (kept.next - 1) ≡ kept.next
    last_taken k ki = omega (arith, ki.scan.least.before)

    -- where the last report taken joins the next, the next is still of the stretch
    pub still : (k : ℕ) → KeptIn ℓ s p k kept → Joins xs ys (kept.next - 1) → kept.next ≤ k
    still k ki m =
        ⊎_elim (λ (e : kept.next ≡ suc k). absurd (joins_not p k ki.stretch (subst (Joins xs ys) (omega (arith, e)) m))) (λ l. le_of_suc-le-suc l)
        (eq-or-lt_of_le ki.upto)

    -- and where it does not, the stretch ends
    pub ends_whole : (ki : KeptIs ℓ s p kept) → (Joins xs ys (kept.next - 1) → ⊥) → EndIs ℓ s p (record { last = kept.next - 1; time = ℓ.deadline (kept.next - 1); operations = kept.sum })
    ends_whole ks apart =
        let k : ℕ = ks.k in
        let ki : KeptIn ℓ s p k kept = ks.kept_in in
        let all : kept.next ≡ suc k = ⊎_elim (λ (e : kept.next ≡ suc k). e) (λ l. absurd (apart (joins_inside p k (kept.next - 1) ki.stretch (omega (arith, ki.scan.least.from, ki.scan.least.before)) (omega (arith, l, ki.scan.least.before))))) (eq-or-lt_of_le ki.upto) in
        let last : kept.next - 1 ≡ k = omega (arith, all) in
        record {
          k = k;
          stretch = ki.stretch;
          on = omega (arith, last);
          from = omega (arith, last, ki.stretch.from);
          operations_are = ki.sum_is;
          found = λ f rd. rw last (finds_whole ℓ f s p k ki.stretch (works_at p k ki.stretch) rd kept.next kept.high.at kept.low.at ki.scan all);
        }

    -- with the next report the operations still fit
    pub sum_small : KeptIs ℓ s p kept → Joins xs ys (kept.next - 1) → kept.sum + ℓ.operations kept.next ≤ 67107840
    sum_small ks m =
        let ki : KeptIn ℓ s p ks.k kept = ks.kept_in in
        let on : kept.next ≤ ks.k = still ks.k ki m in
        let in_list : kept.next < length xs = omega (arith, on, ki.stretch.on_list) in
        omega (arith, ki.sum_is, span_small p (kept.next - 1) (omega arith), last_taken ks.k ki, fair.work kept.next in_list, fair.few, in_list)

    -- the marks of the next report
    pub weighed :
        (ks : KeptIs ℓ s p kept) → Joins xs ys (kept.next - 1) → (hj lj : Mark) (fl sum : ℕ) →
        sum ≡ kept.sum + ℓ.operations kept.next → FloorIs xs ys kept.next fl →
        hj ≡ mark kept.next (ℓ.deadline kept.next) s sum →
        lj ≡ mark kept.next fl s sum →
        Weighed ℓ s p kept hj lj
    weighed ks m hj lj fl sum e f h l =
        let k : ℕ = ks.k in
        let ki : KeptIn ℓ s p k kept = ks.kept_in in
        let on : kept.next ≤ k = still k ki m in
        let from : p ≤ kept.next = omega (arith, ki.scan.least.from, ki.scan.least.before) in
        let total : sum ≡ span ℓ.operations p kept.next = e ∙ ap (λ (x : ℕ). x + ℓ.operations kept.next) ki.sum_is ∙ joined_sum k ki in
        rw (h, l) (record {
          k = k;
          kept_in = ki;
          on = on;
          high_at = refl;
          low_at = refl;
          high_is = record { ticks_are = refl; operations_are = total };
          low_is = record { ticks_are = ap (λ (x : ℕ). x - s) (floor_is p k kept.next fl ki.stretch from on f); operations_are = total };
        })
      where
        joined_sum : (k : ℕ) → KeptIn ℓ s p k kept → span ℓ.operations p (kept.next - 1) + ℓ.operations kept.next ≡ span ℓ.operations p kept.next
        joined_sum k ki =
            subst (λ (n : ℕ). span ℓ.operations p (kept.next - 1) + ℓ.operations n ≡ span ℓ.operations p n) (last_taken k ki)
            (sym (span_more ℓ.operations p (kept.next - 1) (omega (arith, ki.scan.least.from, ki.scan.least.before))))

  -- the search begins
  pub begins_kept :
      (s p : ℕ) (hj lj : Mark) (fl sum : ℕ) → p < length xs → sum ≡ ℓ.operations p → FloorIs xs ys p fl →
      hj ≡ mark p (ℓ.deadline p) s sum →
      lj ≡ mark p fl s sum →
      KeptIs ℓ s p (record { next = p + 1; sum = sum; high = hj; low = lj })
  begins_kept s p hj lj fl sum on e f h l =
      let st = stretch_from ℓ p on in
      let k : ℕ = st.0 in
      let total : sum ≡ span ℓ.operations p p = e ∙ sym (span_one ℓ.operations p) in
      rw (add-one p, h, l) (record {
        k = k;
        kept_in = record {
          stretch = st.1;
          scan = scan_first ℓ s p k st.1;
          high_is = record { ticks_are = refl; operations_are = total };
          low_is = record { ticks_are = ap (λ (x : ℕ). x - s) (floor_is p k p fl st.1 (le_refl p) st.1.from f); operations_are = total };
          sum_is = total ∙ ap (span ℓ.operations p) before_next;
          upto = omega (arith, st.1.from);
        };
      })
    where
      before_next : p ≡ suc p - 1
      before_next = omega arith

-- ---- a block that is searched for
-- its first report works
pub some : (block : Search) → 0 < (reports_in block.fair.list).operations block.first
some block = block.fair.fair.some block.first block.on
