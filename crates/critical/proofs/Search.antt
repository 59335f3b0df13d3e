-- The search for the next block (01, "Blocks"; DESIGN 4.4): what it finds, that it finds it, that the next search is ready, and that paces differ where
-- one block leads into the next.
-- Assumes nothing.
use Prim.Native.Nat.{ℕ, zero, suc, ◌+◌, ◌*◌, ◌-◌, ◌≤◌, ◌<◌}
use mathlib.Core.Path.{◌≡◌, refl, sym, ◌∙◌, ap, subst}
use mathlib.Core.Bool.{cond}
use mathlib.Core.Logic.{◌⊎◌, inl, inr, ⊎_elim}
use native.Mathlib.Omega.{arith}
use native.Mathlib.Nat.{eq-or-lt_of_le, le_of_suc-le-suc, le_refl}
use lib.Dec.{ltb}
use borrow.Author.Tests.{lt-ltb, le-ltb}
use Rattle.fraction.specs.Fraction.{Fraction, ◌≼◌, ◌≺◌, ◌≈◌, whole, times, over}
use Rattle.fraction.proofs.Scale.{cases}
use Rattle.fraction.proofs.Order.{≼_refl, ≼_trans, ≈_≼, ≈_≽, ≈_refl, ≈_sym, ≈_trans, ≺_≼, split, whole_≼, plus_≼, plus_≈, over_≼}
use Rattle.critical.specs.Reports.{Reports}
use Rattle.critical.specs.Rows.{Row, pace}
use Rattle.critical.proofs.Lines.{span, span_join, span_pos, line, line_≼, line_more, line_end, line_start, slope_≼, slope_≻, slope_≽, slope_≺, ≽_slope}
use Rattle.critical.proofs.Room.{Roomy}
use Rattle.critical.proofs.Best.{Direction, ◌≻◌, ◌≽◌, up, down, Best, best_first, best_keep, best_take}

-- ---- how a line leaves
-- behind q the line keeps short of the far bound until, at some report up to k, it falls short of the near bound
pub record Leaves (lt : Fraction → Fraction → Type 0) (way : ℕ → Fraction) (far near : ℕ → ℕ) (q k : ℕ) : Type 0 where
  pub out : ℕ
  pub after : q < out
  pub upto : out ≤ k
  pub short : (j : ℕ) → q < j → j < out → lt (way j) (whole (far j))
  pub leaves : lt (way out) (whole (near out))

-- The exit lemma, over a direction: where the line of one block leaves behind report q, the line of the next block, from the same place, is not on this
-- side of it everywhere.
module _ {lt le : Fraction → Fraction → Type 0} (o : Direction lt le) (way next : ℕ → Fraction) (far near : ℕ → ℕ) (q r k : ℕ)
    (between : (j : ℕ) → q < j → j ≤ k → le (whole (near j)) (whole (far j)))
    (beside : (j : ℕ) → q < j → j ≤ k → le (next j) (way j))
    (old : Leaves lt way far near q k)
    (some : q < r) (on : r ≤ k)
    (inside : (j : ℕ) → q < j → j ≤ r → le (whole (near j)) (next j)) where
  i : ℕ
  i = old.out

  -- near ≤ next ≤ way < near
  meets : i ≤ r → ⊥
  unfolding i
  meets h =
      o.clash (way i) (whole (near i)) old.leaves
      (o.trans (whole (near i)) (next i) (way i) (inside i old.after h) (beside i old.after old.upto))

  -- where the line is short of the far bound, far ≤ next is absurd
  beyond : (j : ℕ) → q < j → j < i → le (whole (far j)) (next j) → ⊥
  unfolding i
  beyond j h l m =
      o.clash (way j) (whole (far j)) (old.short j h l) (o.trans (whole (far j)) (next j) (way j) m (beside j h (omega (arith, old.upto))))

  -- the next block ends at the far bound
  pub exit_far : le (whole (far r)) (next r) → ⊥
  exit_far e = cases r i (λ h. beyond r some h e) meets

  -- the next block ends at the near bound and leaves on the other side
  pub exit_near : Leaves (λ f g. lt g f) next near far r k → ⊥
  unfolding i
  exit_near l = cases r i later meets
    where
      j : ℕ
      j = l.out

      later : r < i → ⊥
      later h =
          cases i j
          (λ m. o.clash (way i) (whole (near i)) old.leaves
          (o.trans (whole (near i)) (next i) (way i) (o.weaken (whole (near i)) (next i) (l.short i h m)) (beside i old.after old.upto)))
          (λ m. ⊎_elim
          (λ (e : j ≡ i). o.clash (way i) (whole (near i)) old.leaves
          (o.trans (whole (near i)) (whole (far i)) (way i) (between i old.after old.upto)
          (o.trans (whole (far i)) (next i) (way i) (subst (λ (x : ℕ). le (whole (far x)) (next x)) e (o.weaken (whole (far j)) (next j) l.leaves)) (beside i old.after old.upto))))
          (λ s. beyond j (omega (arith, l.after, some)) s (o.weaken (whole (far j)) (next j) l.leaves))
          (eq-or-lt_of_le m))

-- ---- the stretch
-- reports p to k without idle time between them: a longest run in which each next arrival is not behind the deadline
pub record Stretch (ℓ : Reports) (p k : ℕ) : Type 0 where
  pub from : p ≤ k
  pub on_list : k < ℓ.count
  pub joined : (j : ℕ) → p ≤ j → j < k → ℓ.arrival (suc j) ≤ ℓ.deadline j
  pub closed : suc k < ℓ.count → ℓ.deadline k < ℓ.arrival (suc k)

-- the least time at which report j may end: the next arrival; for the last report of the stretch, its deadline
abbrev pub floor : Reports → ℕ → ℕ → ℕ
floor ℓ k j = cond (ltb j k) (ℓ.arrival (suc j)) (ℓ.deadline j)

pub floor_in : (ℓ : Reports) (k j : ℕ) → j < k → floor ℓ k j ≡ ℓ.arrival (suc j)
floor_in ℓ k j h = ap (λ b. cond b (ℓ.arrival (suc j)) (ℓ.deadline j)) (lt-ltb j k h)

pub floor_end : (ℓ : Reports) (k j : ℕ) → k ≤ j → floor ℓ k j ≡ ℓ.deadline j
floor_end ℓ k j h = ap (λ b. cond b (ℓ.arrival (suc j)) (ℓ.deadline j)) (le-ltb j k h)

pub floor_≤ : (ℓ : Reports) (p k j : ℕ) → Stretch ℓ p k → p ≤ j → j ≤ k → floor ℓ k j ≤ ℓ.deadline j
floor_≤ ℓ p k j st h l =
    ⊎_elim (λ (e : j ≡ k). omega (arith, floor_end ℓ k j (omega arith))) (λ m. omega (arith, floor_in ℓ k j m, st.joined j h m)) (eq-or-lt_of_le l)

-- a stretch has one end, and a later report of it has the same
pub stretch_end : (ℓ : Reports) (p k m : ℕ) → Stretch ℓ p k → Stretch ℓ p m → k ≡ m
stretch_end ℓ p k m s t =
    cases k m (λ h. absurd (omega (arith, s.closed (omega (arith, t.on_list)), t.joined k s.from h)))
    (λ h. ⊎_elim (λ (e : m ≡ k). sym e) (λ l. absurd (omega (arith, t.closed (omega (arith, s.on_list)), s.joined m t.from l))) (eq-or-lt_of_le h))

pub stretch_later : (ℓ : Reports) (p q k : ℕ) → Stretch ℓ p k → p ≤ q → q ≤ k → Stretch ℓ q k
stretch_later ℓ p q k s h l = record { from = l; on_list = s.on_list; joined = λ j m n. s.joined j (omega arith) n; closed = s.closed }

-- every report begins a stretch
pub stretch_from : (ℓ : Reports) (p : ℕ) → p < ℓ.count → (k : ℕ) × Stretch ℓ p k
stretch_from ℓ p h = go ℓ.count p h (omega arith)
  where
    more : (p k : ℕ) → ℓ.arrival (suc p) ≤ ℓ.deadline p → Stretch ℓ (suc p) k → Stretch ℓ p k
    more p k h s = record {
      from = omega (arith, s.from);
      on_list = s.on_list;
      joined = λ j l m. ⊎_elim (λ (e : p ≡ j). subst (λ (x : ℕ). ℓ.arrival (suc x) ≤ ℓ.deadline x) e h) (λ n. s.joined j n m) (eq-or-lt_of_le l);
      closed = s.closed;
    }

    only : (p : ℕ) → p < ℓ.count → (suc p < ℓ.count → ℓ.deadline p < ℓ.arrival (suc p)) → Stretch ℓ p p
    only p h c = record { from = le_refl p; on_list = h; joined = λ j l m. absurd (omega arith); closed = c }

    go : (fuel p : ℕ) → p < ℓ.count → ℓ.count ≤ p + fuel → (k : ℕ) × Stretch ℓ p k
    go zero p h e = absurd (omega arith)
    go (suc fuel) p h e =
        let r : suc p < ℓ.count → (k : ℕ) × Stretch ℓ (suc p) k = λ l. go fuel (suc p) l (omega arith) in
        cases (suc p) ℓ.count
        (λ l. cases (ℓ.deadline p) (ℓ.arrival (suc p)) (λ m. (p, only p h (λ _. m))) (λ m. ((r l).0, more p (r l).0 m (r l).1)))
        (λ l. (p, only p h (λ m. absurd (omega arith))))

-- ---- what the search finds
-- where a row's line stands at report j
abbrev pub way : Reports → Row → ℕ → Fraction
way ℓ r j = line r.start (pace r) (span ℓ.operations r.first j)

-- how a row ends: at its last report's deadline, and then, where the stretch goes on, its line leaves below; or at the next arrival, and its line leaves above
pub data Ending (ℓ : Reports) (k : ℕ) (r : Row) : Type 0 where
  at_deadline : r.end ≡ ℓ.deadline r.last → (r.last < k → Leaves ◌≺◌ (way ℓ r) ℓ.deadline (floor ℓ k) r.last k) → Ending ℓ k r
  at_arrival : r.last < k → r.end ≡ ℓ.arrival (suc r.last) → Leaves ◌≻◌ (way ℓ r) (floor ℓ k) ℓ.deadline r.last k → Ending ℓ k r

-- the next block in the stretch that ends at k: a row, the facts on its line, and how it ends
pub record Found (ℓ : Reports) (fastest : Fraction) (k : ℕ) (r : Row) : Type 0 where
  pub works : r.operations ≡ span ℓ.operations r.first r.last
  pub ordered : r.first ≤ r.last
  pub within : r.last ≤ k
  pub onward : r.start ≤ r.end
  pub enough : fastest ≼ pace r
  pub above : (j : ℕ) → r.first ≤ j → j ≤ r.last → whole (floor ℓ k j) ≼ way ℓ r j
  pub below : (j : ℕ) → r.first ≤ j → j ≤ r.last → way ℓ r j ≼ whole (ℓ.deadline j)
  pub ending : Ending ℓ k r

-- the search can begin at time s with report p: at the fastest pace all of the stretch is in time
abbrev pub Ready : Reports → Fraction → ℕ → ℕ → ℕ → Type 0
Ready ℓ f s p k = (j : ℕ) → p ≤ j → j ≤ k → line s f (span ℓ.operations p j) ≼ whole (ℓ.deadline j)

-- 01's high and low of report j, from start s and first report p
abbrev pub high : Reports → ℕ → ℕ → ℕ → Fraction
high ℓ s p j = over (ℓ.deadline j - s) (span ℓ.operations p j)

abbrev pub low : Reports → ℕ → ℕ → ℕ → ℕ → Fraction
low ℓ s p k j = over (floor ℓ k j - s) (span ℓ.operations p j)

-- a row of reports p to q from s to e
abbrev pub row_of : Reports → ℕ → ℕ → ℕ → ℕ → Row
row_of ℓ s p q e = record { first = p; last = q; start = s; end = e; operations = span ℓ.operations p q }

-- where the search stands before report j: h is the last of the reports so far with the least high, l the last with the greatest low, and every low so far is
-- at most every high
pub record Scan (ℓ : Reports) (s p k j h l : ℕ) : Type 0 where
  pub least : Best ◌≺◌ ◌≼◌ (high ℓ s p) p j h
  pub greatest : Best ◌≻◌ ◌≽◌ (low ℓ s p k) p j l
  pub apart : low ℓ s p k l ≼ high ℓ s p h

-- slopes: a positive slope to x means that x is ahead
pub ahead : (g : Fraction) (x s S : ℕ) → g ≺ over (x - s) S → s ≤ x
unfolding over
ahead g x s S h = cases x s (λ l. absurd (omega (arith, ap (◌*◌ g.den) (nil l)))) (λ m. m)
  where
    nil : x < s → x - s ≡ 0
    nil l = omega arith

-- ---- the steps of the search
module _ (ℓ : Reports) (s p k : ℕ) where
  abbrev hi : ℕ → Fraction
  hi = high ℓ s p

  abbrev lo : ℕ → Fraction
  lo = low ℓ s p k

  -- every low so far is at most every high so far
  low_high : (j h l : ℕ) → Scan ℓ s p k j h l → (i m : ℕ) → p ≤ i → i < j → p ≤ m → m < j → lo i ≼ hi m
  low_high j h l sc i m pi ij pm mj = ≼_trans (sc.greatest.best i pi ij) (≼_trans sc.apart (sc.least.best m pm mj))

  module _ (st : Stretch ℓ p k) where
    floor_less : (j : ℕ) → p ≤ j → j ≤ k → floor ℓ k j - s ≤ ℓ.deadline j - s
    floor_less j h l = omega (arith, floor_≤ ℓ p k j st h l)

    -- the search begins with the first report
    pub scan_first : Scan ℓ s p k (suc p) p p
    scan_first = record {
      least = best_first up hi p;
      greatest = best_first down lo p;
      apart = over_≼ (span ℓ.operations p p) (floor_less p (le_refl p) st.from);
    }

    -- neither: report j joins, and the kept indices are again the last of the best
    pub scan_more :
        (j h l : ℕ) → Scan ℓ s p k j h l → (h' l' : ℕ) → j ≤ k → lo j ≼ hi h → lo l ≼ hi j → Best ◌≺◌ ◌≼◌ hi p (suc j) h' → Best ◌≻◌ ◌≽◌ lo p (suc j) l' →
        Scan ℓ s p k (suc j) h' l'
    scan_more j h l sc h' l' on a b least greatest = record { least = least; greatest = greatest; apart = meet (below_or l' greatest.before) (below_or h' least.before) }
      where
        below_or : (x : ℕ) → x < suc j → (x ≡ j) ⊎ (x < j)
        below_or x m = eq-or-lt_of_le (le_of_suc-le-suc m)

        from : p ≤ j
        from = omega (arith, sc.least.from, sc.least.before)

        meet : (l' ≡ j) ⊎ (l' < j) → (h' ≡ j) ⊎ (h' < j) → lo l' ≼ hi h'
        meet (inl e) (inl e') = rw (e, e') (over_≼ (span ℓ.operations p j) (floor_less j from on))
        meet (inl e) (inr m) = rw e (≼_trans a (sc.least.best h' least.from m))
        meet (inr m) (inl e) = rw e (≼_trans (sc.greatest.best l' greatest.from m) b)
        meet (inr m) (inr m') = low_high j h l sc l' h' greatest.from m least.from m'

module _ (ℓ : Reports) (f : Fraction) (s p k : ℕ) (st : Stretch ℓ p k) (working : 0 < ℓ.operations p) (ready : Ready ℓ f s p k) where
  abbrev hiᶠ : ℕ → Fraction
  hiᶠ = high ℓ s p

  abbrev loᶠ : ℕ → Fraction
  loᶠ = low ℓ s p k

  pos : (j : ℕ) → p ≤ j → 0 < span ℓ.operations p j
  pos j h = span_pos ℓ.operations p j working h

  -- the fastest pace is at most every high, and every deadline is ahead
  enough_high : (j : ℕ) → p ≤ j → j ≤ k → f ≼ hiᶠ j
  enough_high j h l = ≽_slope s (ℓ.deadline j) (span ℓ.operations p j) f (pos j h) (ready j h l)

  deadline_ahead : (j : ℕ) → p ≤ j → j ≤ k → s ≤ ℓ.deadline j
  deadline_ahead j h l = line_start s (ℓ.deadline j) (span ℓ.operations p j) f (ready j h l)

  -- a slope t against the low and the high of report i
  reaches : (i : ℕ) (t : Fraction) → p ≤ i → loᶠ i ≼ t → whole (floor ℓ k i) ≼ line s t (span ℓ.operations p i)
  reaches i t h = slope_≼ s (floor ℓ k i) (span ℓ.operations p i) t (pos i h)

  keeps : (i : ℕ) (t : Fraction) → p ≤ i → i ≤ k → t ≼ hiᶠ i → line s t (span ℓ.operations p i) ≼ whole (ℓ.deadline i)
  keeps i t h l = slope_≽ s (ℓ.deadline i) (span ℓ.operations p i) t (pos i h) (deadline_ahead i h l)

  short_of : (x i : ℕ) (t : Fraction) → p ≤ i → t ≺ over (x - s) (span ℓ.operations p i) → line s t (span ℓ.operations p i) ≺ whole x
  short_of x i t h = slope_≻ s x (span ℓ.operations p i) t (pos i h)

  past : (x i : ℕ) (t : Fraction) → p ≤ i → over (x - s) (span ℓ.operations p i) ≺ t → whole x ≺ line s t (span ℓ.operations p i)
  past x i t h = slope_≺ s x (span ℓ.operations p i) t (pos i h)

  module _ (j h l : ℕ) (sc : Scan ℓ s p k j h l) where
    -- the first case: report j's low exceeds the least high. The block ends at the last report with that high, at its deadline
    pub finds_rise : j ≤ k → hiᶠ h ≺ loᶠ j → Found ℓ f k (row_of ℓ s p h (ℓ.deadline h))
    finds_rise on x = record {
      works = refl;
      ordered = sc.least.from;
      within = omega (arith, sc.least.before);
      onward = deadline_ahead h sc.least.from (omega (arith, sc.least.before));
      enough = enough_high h sc.least.from (omega (arith, sc.least.before));
      above = λ i a b. reaches i (hiᶠ h) a (low_high ℓ s p k j h l sc i h a (omega (arith, sc.least.before)) sc.least.from sc.least.before);
      below = λ i a b. keeps i (hiᶠ h) a (omega (arith, sc.least.before)) (sc.least.best i a (omega (arith, sc.least.before)));
      ending = at_deadline refl (λ _. record {
        out = j;
        after = sc.least.before;
        upto = on;
        short = λ i a b. short_of (ℓ.deadline i) i (hiᶠ h) (omega (arith, sc.least.from)) (sc.least.last i a b);
        leaves = short_of (floor ℓ k j) j (hiᶠ h) (omega (arith, sc.least.from, sc.least.before)) x;
      });
    }

    -- the second case: report j's high lies below the greatest low. The block ends at the last report with that low, at the next arrival
    pub finds_fall : j ≤ k → hiᶠ j ≺ loᶠ l → Found ℓ f k (row_of ℓ s p l (ℓ.arrival (suc l)))
    finds_fall on x = subst (λ (e : ℕ). Found ℓ f k (row_of ℓ s p l e)) e (record {
      works = refl;
      ordered = sc.greatest.from;
      within = omega (arith, sc.greatest.before);
      onward = ahead (hiᶠ j) (floor ℓ k l) s (span ℓ.operations p l) x;
      enough = ≼_trans (enough_high j (omega (arith, sc.greatest.from, sc.greatest.before)) on) (≺_≼ x);
      above = λ i a b. reaches i (loᶠ l) a (sc.greatest.best i a (omega (arith, sc.greatest.before)));
      below = λ i a b. keeps i (loᶠ l) a (omega (arith, sc.greatest.before)) (low_high ℓ s p k j h l sc l i sc.greatest.from sc.greatest.before a (omega (arith, sc.greatest.before)));
      ending = at_arrival inner e (record {
        out = j;
        after = sc.greatest.before;
        upto = on;
        short = λ i a b. past (floor ℓ k i) i (loᶠ l) (omega (arith, sc.greatest.from)) (sc.greatest.last i a b);
        leaves = past (ℓ.deadline j) j (loᶠ l) (omega (arith, sc.greatest.from, sc.greatest.before)) x;
      });
    })
      where
        inner : l < k
        inner = omega (arith, sc.greatest.before)

        e : floor ℓ k l ≡ ℓ.arrival (suc l)
        e = floor_in ℓ k l inner

    -- no report ends the search: the block is the whole stretch
    pub finds_whole : j ≡ suc k → Found ℓ f k (row_of ℓ s p k (ℓ.deadline k))
    finds_whole end = record {
      works = refl;
      ordered = st.from;
      within = le_refl k;
      onward = deadline_ahead k st.from (le_refl k);
      enough = enough_high k st.from (le_refl k);
      above = λ i a b. reaches i (hiᶠ k) a (low_high ℓ s p k j h l sc i k a (omega arith) st.from (omega arith));
      below = λ i a b. keeps i (hiᶠ k) a b (subst (λ (x : ℕ). over (x - s) (span ℓ.operations p k) ≼ hiᶠ i) (floor_end ℓ k k (le_refl k)) (low_high ℓ s p k j h l sc k i st.from (omega arith) a (omega arith)));
      ending = at_deadline refl (λ b. absurd (omega arith));
    }

  -- the search finds a row, whatever report it has come to
  pub search_from : (fuel j h l : ℕ) → Scan ℓ s p k j h l → j ≤ suc k → suc k ≤ j + fuel → (q : ℕ) × (e : ℕ) × Found ℓ f k (row_of ℓ s p q e)
  search_from zero j h l sc on all = (k, ℓ.deadline k, finds_whole j h l sc (omega arith))
  search_from (suc fuel) j h l sc on all =
      let go : (h' l' : ℕ) → j ≤ k → Scan ℓ s p k (suc j) h' l' → (q : ℕ) × (e : ℕ) × Found ℓ f k (row_of ℓ s p q e) = λ h' l' m sc'. search_from fuel (suc j) h' l' sc' (omega arith) (omega arith) in
      cases k j (λ m. (k, ℓ.deadline k, finds_whole j h l sc (omega arith)))
      (λ m. split (hiᶠ h) (loᶠ j) (λ x. (h, ℓ.deadline h, finds_rise j h l sc m x))
      (λ a. split (hiᶠ j) (loᶠ l) (λ x. (l, ℓ.arrival (suc l), finds_fall j h l sc m x))
      (λ b. split (hiᶠ h) (hiᶠ j)
      (λ y. split (loᶠ j) (loᶠ l) (λ z. go h l m (scan_more ℓ s p k st j h l sc h l m a b (best_keep up hiᶠ p j h sc.least y) (best_keep down loᶠ p j l sc.greatest z)))
      (λ z. go h j m (scan_more ℓ s p k st j h l sc h j m a b (best_keep up hiᶠ p j h sc.least y) (best_take down loᶠ p j l sc.greatest z))))
      (λ y. split (loᶠ j) (loᶠ l) (λ z. go j l m (scan_more ℓ s p k st j h l sc j l m a b (best_take up hiᶠ p j h sc.least y) (best_keep down loᶠ p j l sc.greatest z)))
      (λ z. go j j m (scan_more ℓ s p k st j h l sc j j m a b (best_take up hiᶠ p j h sc.least y) (best_take down loᶠ p j l sc.greatest z)))))))

  pub search_finds : (q : ℕ) × (e : ℕ) × Found ℓ f k (row_of ℓ s p q e)
  search_finds = search_from (suc k) (suc p) p p (scan_first ℓ s p k st) (omega (arith, st.from)) (omega arith)

-- ---- behind a block that was found
module _ (ℓ : Reports) (f : Fraction) (k : ℕ) (r : Row) (fd : Found ℓ f k r) (working : 0 < ℓ.operations r.first) where
  abbrev w : ℕ → ℕ
  w = ℓ.operations

  -- the row's line comes to its end, and goes on from there
  pub way_end : way ℓ r r.last ≈ whole r.end
  way_end =
      subst (λ (n : ℕ). line r.start (pace r) n ≈ whole r.end) fd.works
      (line_end r.start r.end r.operations fd.onward (subst (λ (n : ℕ). 0 < n) (sym fd.works) (span_pos w r.first r.last working fd.ordered)))

  pub way_on : (j : ℕ) → r.last < j → way ℓ r j ≈ line r.end (pace r) (span w (suc r.last) j)
  unfolding line
  way_on j h =
      rw (span_join w r.first r.last j fd.ordered h)
      (≈_trans (≈_sym (line_more r.start (pace r) (span w r.first r.last) (span w (suc r.last) j))) (plus_≈ way_end (≈_refl (times (span w (suc r.last) j) (pace r)))))

  -- ready goes on: the next search in the stretch can begin
  pub ready_on : Roomy ℓ f → (p : ℕ) → Stretch ℓ p k → p ≤ r.last → r.last < k → Ready ℓ f r.end (suc r.last) k
  unfolding line
  ready_on roomy p st from inner = go fd.ending
    where
      -- at the fastest pace the next line is no later than this one
      no_later : (j : ℕ) → r.last < j → line r.end f (span w (suc r.last) j) ≼ way ℓ r j
      no_later j h = ≼_trans (line_≼ r.end (span w (suc r.last) j) fd.enough) (≈_≽ (way_on j h))

      -- from a report where the line lies before the next arrival, room does the rest
      behind :
          (i j : ℕ) → r.last < i → i < j → j ≤ k → way ℓ r i ≺ whole (floor ℓ k i) →
          line r.end f (span w (suc r.last) j) ≼ whole (ℓ.deadline j)
      behind i j a b c x =
          rw (span_join w (suc r.last) i j a b)
          (≼_trans (≈_≽ (line_more r.end f (span w (suc r.last) i) (span w (suc i) j)))
          (≼_trans (plus_≼ (≼_trans (no_later i a) (≺_≼ (subst (λ (y : ℕ). way ℓ r i ≺ whole y) (floor_in ℓ k i (omega arith)) x))) (≼_refl (times (span w (suc i) j) f)))
          (roomy (suc i) j b (omega (arith, st.on_list)))))

      go : Ending ℓ k r → Ready ℓ f r.end (suc r.last) k
      go (at_arrival b e l) j h m = rw e (roomy (suc r.last) j h (omega (arith, st.on_list)))
      go (at_deadline e l) j h m =
          let v = l inner in
          cases j v.out (λ x. ≼_trans (no_later j h) (≺_≼ (v.short j h x)))
          (λ x. ⊎_elim (λ (y : v.out ≡ j). ≼_trans (no_later j h) (≼_trans (≺_≼ (subst (λ (z : ℕ). way ℓ r z ≺ whole (floor ℓ k z)) y v.leaves)) (whole_≼ (floor_≤ ℓ p k j st (omega arith) m))))
          (λ y. behind v.out j v.after y m v.leaves) (eq-or-lt_of_le x))

-- ---- where one row leads into the next of its stretch, which starts where it ends
module _ (ℓ : Reports) (f : Fraction) (p k : ℕ) (st : Stretch ℓ p k) (r r' : Row) (fd : Found ℓ f k r) (fd' : Found ℓ f k r')
    (working : 0 < ℓ.operations r.first) (working' : 0 < ℓ.operations r'.first)
    (from : p ≤ r.last) (next : r'.first ≡ suc r.last) (joins : r'.start ≡ r.end) where
  -- this row's line, seen from where the next one starts
  onward : (j : ℕ) → r.last < j → way ℓ r j ≈ line r'.start (pace r) (span ℓ.operations r'.first j)
  onward j h = rw (next, joins) (way_on ℓ f k r fd working j h)

  lower : pace r' ≼ pace r → (j : ℕ) → r.last < j → j ≤ k → way ℓ r' j ≼ way ℓ r j
  lower x j h l = ≼_trans (line_≼ r'.start (span ℓ.operations r'.first j) x) (≈_≽ (onward j h))

  higher : pace r ≼ pace r' → (j : ℕ) → r.last < j → j ≤ k → way ℓ r j ≼ way ℓ r' j
  higher x j h l = ≼_trans (≈_≼ (onward j h)) (line_≼ r'.start (span ℓ.operations r'.first j) x)

  within : (j : ℕ) → r.last < j → j ≤ k → whole (floor ℓ k j) ≼ whole (ℓ.deadline j)
  within j h l = whole_≼ (floor_≤ ℓ p k j st (omega arith) l)

  some : r.last < r'.last
  some = omega (arith, fd'.ordered)

  above : (j : ℕ) → r.last < j → j ≤ r'.last → whole (floor ℓ k j) ≼ way ℓ r' j
  above j a b = fd'.above j (omega arith) b

  below : (j : ℕ) → r.last < j → j ≤ r'.last → way ℓ r' j ≼ whole (ℓ.deadline j)
  below j a b = fd'.below j (omega arith) b

  end' : way ℓ r' r'.last ≈ whole r'.end
  end' = way_end ℓ f k r' fd' working'

  -- The exit lemma: a row whose line leaves below leads into a slower one.
  pub leads_slower : Leaves ◌≺◌ (way ℓ r) ℓ.deadline (floor ℓ k) r.last k → pace r ≺ pace r'
  leads_slower l = split (pace r) (pace r') (λ x. x) (λ x. absurd (go x fd'.ending))
    where
      go : pace r' ≼ pace r → Ending ℓ k r' → ⊥
      go x (at_deadline e m) = exit_far up (way ℓ r) (way ℓ r') ℓ.deadline (floor ℓ k) r.last r'.last k within (lower x) l some fd'.within above (≈_≽ (subst (λ (y : ℕ). way ℓ r' r'.last ≈ whole y) e end'))
      go x (at_arrival b e m) = exit_near up (way ℓ r) (way ℓ r') ℓ.deadline (floor ℓ k) r.last r'.last k within (lower x) l some fd'.within above m

  -- Its mirror image: a row whose line leaves above leads into a faster one.
  pub leads_faster : Leaves ◌≻◌ (way ℓ r) (floor ℓ k) ℓ.deadline r.last k → pace r' ≺ pace r
  leads_faster l = split (pace r') (pace r) (λ x. x) (λ x. absurd (go x fd'.ending))
    where
      go : pace r ≼ pace r' → Ending ℓ k r' → ⊥
      go x (at_arrival b e m) = exit_far down (way ℓ r) (way ℓ r') (floor ℓ k) ℓ.deadline r.last r'.last k within (higher x) l some fd'.within below (≈_≼ (subst (λ (y : ℕ). way ℓ r' r'.last ≈ whole y) (e ∙ sym (floor_in ℓ k r'.last b)) end'))
      go x (at_deadline e m) =
          ⊎_elim (λ (y : r'.last ≡ k). exit_far down (way ℓ r) (way ℓ r') (floor ℓ k) ℓ.deadline r.last r'.last k within (higher x) l some fd'.within below (≈_≼ (subst (λ (y : ℕ). way ℓ r' r'.last ≈ whole y) (e ∙ sym (floor_end ℓ k r'.last (omega arith))) end')))
          (λ y. exit_near down (way ℓ r) (way ℓ r') (floor ℓ k) ℓ.deadline r.last r'.last k within (higher x) l some fd'.within below (m y))
          (eq-or-lt_of_le fd'.within)
