-- What is written reads back, behind any preface: the file rules pass, and each number and list is the one that went in.
-- Assumes nothing.
use Prim.Native.Nat.{ℕ, zero, suc, ◌+◌, ◌*◌, ◌-◌, ◌≤◌, ◌<◌}
use mathlib.Core.Path.{◌≡◌, refl, sym, ◌∙◌, ap, ap₂, subst}
use mathlib.Core.Bool.{true}
use mathlib.Core.List.{List, ◌++◌}
use mathlib.Core.Logic.{inl}
use native.Mathlib.Omega.{arith}
use lib.ListN.{length, get_or, take, drop, length-append}
use lib.Seq.{take_at, drop_at}
use Rattle.lists.specs.Puts.{Puts}
use Rattle.lists.proofs.Filling.{as_listed}
use Rattle.lists.proofs.Putting.{put_front}
use Rattle.trials.proofs.Passing.{Passed, not_given, more, none}
use Rattle.fraction.proofs.Scale.{cases}
use Rattle.rules.specs.declared.Roll.{Roll}
use Rattle.roll.specs.Format.{u16_at, u32_at, mark, ends_in, trailer_long, back_of, count_of, reference_of, p_of, q_of, terms_of, file_rules, records_at, records_of, column_in}
use Rattle.roll.proofs.Marking.{ends_in_true, without_floor, plain_mark}
use Rattle.writer.specs.Bytes.{Listing, record_bytes, records_up_to, records_bytes, trailer_bytes, trailer_for, roll_long, roll_bytes, shown, ReadsBack}
use Rattle.writer.proofs.LittleEndian.{two_bytes, four_bytes, byte_behind, u16_behind, u32_behind, u32_before}
use Rattle.writer.proofs.Records.{Packable, length-records, length-records_bytes, length-roll_bytes}

-- ---- records that are written: a number of record i
u32_record :
    (xs ys ws : List ℕ) (n i at : ℕ) → i < n → at + 4 ≤ 12 →
    u32_at (records_up_to xs ys ws n) (12 * i + at) ≡ u32_at (record_bytes (get_or xs i 0) (get_or ys i 0) (get_or ws i 0)) at
unfolding records_up_to
u32_record xs ys ws zero i at h k = absurd (omega (arith, h))
u32_record xs ys ws (suc n) i at h k =
    let before = records_up_to xs ys ws n in
    let r = record_bytes (get_or xs n 0) (get_or ys n 0) (get_or ws n 0) in
    cases i n
    (λ l. u32_before before r (12 * i + at) (omega (arith, l, k, length-records xs ys ws n)) ∙ u32_record xs ys ws n i at l k)
    (λ g. let e : n ≡ i = omega (arith, h, g) in
    u32_behind before r (12 * i + at) at (omega (arith, h, g, length-records xs ys ws n))
    ∙ ap (λ (j : ℕ). u32_at (record_bytes (get_or xs j 0) (get_or ys j 0) (get_or ws j 0)) at) e)

-- ---- a list that a roll can carry, behind any preface
module _ (x : Listing) (p : Packable x) (preface : List ℕ) where
  abbrev n : ℕ
  n = length x.arrivals

  abbrev trailer : List ℕ
  trailer = trailer_bytes (trailer_for x)

  abbrev s : List ℕ
  s = preface ++ roll_bytes x

  long : length s ≡ length preface + length (records_bytes x) + 16
  long =
      let f : length s ≡ length preface + length (roll_bytes x) = length-append preface (roll_bytes x) in
      omega (arith, f, length-roll_bytes x, length-records_bytes x)

  -- the trailer's numbers
  byte_last : (at k : ℕ) → at ≡ length preface + (length (records_bytes x) + k) → get_or s at 0 ≡ get_or trailer k 0
  byte_last at k e = byte_behind preface (roll_bytes x) at (length (records_bytes x) + k) e ∙ byte_behind (records_bytes x) trailer (length (records_bytes x) + k) k refl

  u16_last : (at k : ℕ) → at ≡ length preface + (length (records_bytes x) + k) → u16_at s at ≡ u16_at trailer k
  u16_last at k e = u16_behind preface (roll_bytes x) at (length (records_bytes x) + k) e ∙ u16_behind (records_bytes x) trailer (length (records_bytes x) + k) k refl

  u32_last : (at k : ℕ) → at ≡ length preface + (length (records_bytes x) + k) → u32_at s at ≡ u32_at trailer k
  u32_last at k e = u32_behind preface (roll_bytes x) at (length (records_bytes x) + k) e ∙ u32_behind (records_bytes x) trailer (length (records_bytes x) + k) k refl

  back_back : back_of s ≡ roll_long n
  back_back = u32_last (length s - 16) 0 (omega (arith, long)) ∙ four_bytes (roll_long n) (omega (arith, p.count_fits))

  reference_back : reference_of s ≡ x.terms.reference
  reference_back = u32_last (length s - 12) 4 (omega (arith, long)) ∙ four_bytes x.terms.reference p.reference_fits

  count_back : count_of s ≡ n
  count_back = u16_last (length s - 8) 8 (omega (arith, long)) ∙ two_bytes n p.count_fits

  p_back : p_of s ≡ x.terms.p
  p_back = u16_last (length s - 6) 10 (omega (arith, long)) ∙ two_bytes x.terms.p p.p_fits

  q_back : q_of s ≡ x.terms.q
  q_back = u16_last (length s - 4) 12 (omega (arith, long)) ∙ two_bytes x.terms.q p.q_fits

  terms_back : terms_of s ≡ x.terms
  terms_back =
      ap (λ (r : ℕ). terms r (p_of s) (q_of s)) reference_back ∙ ap₂ (λ (u v : ℕ). terms x.terms.reference u v) p_back q_back
    where
      terms : ℕ → ℕ → ℕ → Roll
      terms r u v = record { reference = r; p = u; q = v }

  mark_back : ends_in s mark ≡ true
  mark_back = ends_in_true s mark (byte_last (length s - 2) 14 (omega (arith, long))) (byte_last (length s - 1) 15 (omega (arith, long)))

  -- so the trailer is one of 16 bytes
  trailer_back : trailer_long s ≡ 16
  trailer_back = (without_floor s (plain_mark s mark_back)).0

  -- no file rule is given
  passed_back : Passed (file_rules s)
  passed_back =
      more (not_given (λ h. omega (arith, h, long, trailer_back)))
      (more (not_given (λ h. h (record { is = inl mark_back })))
      (more (not_given (λ h. h (back_back ∙ sym (ap₂ (λ (a b : ℕ). a + 12 * b) trailer_back count_back))))
      (more (not_given (λ h. omega (arith, h, long, length-records_bytes x, back_back))) none)))

  -- the records stand behind the preface
  pub records_at_preface : records_at s ≡ length preface
  records_at_preface = omega (arith, long, length-records_bytes x, back_back)

  pub records_back : records_of s ≡ records_bytes x
  records_back =
      let c : 12 * count_of s ≡ 12 * n = omega (arith, count_back) in
      ap₂ (λ (m k : ℕ). take m (drop k s)) c records_at_preface
      ∙ ap (take (12 * n)) (drop_at preface (roll_bytes x) (length preface) refl)
      ∙ take_at (records_bytes x) trailer (12 * n) (length-records_bytes x)

  -- a column is the list that went in
  column_back :
      (at : ℕ) (xs : List ℕ) → at + 4 ≤ 12 → length xs ≡ n →
      ((i : ℕ) → i < n → u32_at (record_bytes (get_or x.arrivals i 0) (get_or x.deadlines i 0) (get_or x.operations i 0)) at ≡ get_or xs i 0) →
      column_in (records_of s) (count_of s) at ≡ xs
  column_back at xs k l e =
      ap₂ (λ (r : List ℕ) (c : ℕ). column_in r c at) records_back count_back
      ∙ sym (as_listed xs n (λ i. u32_at (records_bytes x) (12 * i + at)) l (λ i h. sym (u32_record x.arrivals x.deadlines x.operations n i at h k ∙ e i h)))

  list_back : shown s ≡ x
  list_back =
      let f = p.records_fit.each in
      let e = p.even in
      let a = column_back 0 x.arrivals (omega arith) refl (λ i h. four_bytes (get_or x.arrivals i 0) (f i h).arrival_fits) in
      let d = column_back 4 x.deadlines (omega arith) e.deadlines_long (λ i h. four_bytes (get_or x.deadlines i 0) (f i h).deadline_fits) in
      let o = column_back 8 x.operations (omega arith) e.operations_long (λ i h. four_bytes (get_or x.operations i 0) (f i h).operations_fit) in
      ap₂ (λ (u v : List ℕ). listing u v (column_in (records_of s) (count_of s) 8) (terms_of s)) a d ∙ ap₂ (λ (u : List ℕ) (t : Roll). listing x.arrivals x.deadlines u t) o terms_back
    where
      listing : List ℕ → List ℕ → List ℕ → Roll → Listing
      listing a d o t = record { arrivals = a; deadlines = d; operations = o; terms = t }

  -- A roll that is written reads back as the list that went in, behind any preface.
  pub reads_back : ReadsBack s x
  reads_back = record { accepted = passed_back.accepted; marked = mark_back; count_is = count_back; list_is = list_back }

-- ---- in a buffer
-- A roll that is put into a buffer reads back from the buffer up to the roll's end: what stands before the place is the preface.
pub written_reads_back : (x : Listing) {before after : List ℕ} {at to : ℕ} → Packable x → Puts before at (roll_bytes x) to after → ReadsBack (take to after) x
written_reads_back x {before} {at = at} p w = subst (λ (s : List ℕ). ReadsBack s x) (sym (put_front w)) (reads_back x p (take at before))
