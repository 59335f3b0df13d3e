-- What was read writes back: packing what a roll marked AQ shows gives that roll's bytes again, from its first record on.
-- Assumes nothing.
use Prim.Native.Nat.{ℕ, zero, suc, ◌+◌, ◌*◌, ◌-◌, ◌/◌, ◌%◌, ◌^◌, ◌≤◌, ◌<◌}
use mathlib.Core.Path.{◌≡◌, refl, sym, ◌∙◌, ap, ap₂}
use mathlib.Core.Bool.{true}
use mathlib.Core.List.{List, [], ◌∷◌, ◌++◌}
use native.Mathlib.Omega.{arith}
use native.Mathlib.Numerals.{add-one}
use lib.ListN.{length, get_or, take, drop, length-drop}
use lib.Seq.{take-add, drop-drop, drop-cons, take_all, length-take-le, get_or-take, get_or-drop}
use Rattle.lists.proofs.Filling.{get_or-listed}
use Rattle.trials.proofs.Passing.{Passed}
use Rattle.roll.specs.Format.{mark, ends_in, u16_at, u32_at, back_of, count_of, reference_of, p_of, q_of, terms_of, file_rules, records_at, records_of, column_in}
use Rattle.roll.specs.declared.Trailer.{Trailer}
use Rattle.roll.proofs.Marking.{its_bytes}
use Rattle.roll.proofs.FileRules.{FileIs, plain_file}
use Rattle.roll.proofs.Rolls.{column_long}
use Rattle.writer.specs.Bytes.{le16, le32, record_bytes, records_up_to, trailer_bytes, roll_bytes, shown, ByteString}
use Rattle.writer.specs.Inside.{RecordsFit}
use Rattle.writer.proofs.Records.{Packable}
use Rattle.writer.proofs.LittleEndian.{bytes_two}

-- ---- parts of a string
module _ (s : List ℕ) where
  -- two parts, one behind the other
  glued : (m k at : ℕ) (xs ys : List ℕ) → xs ≡ take m (drop at s) → ys ≡ take k (drop (at + m) s) → xs ++ ys ≡ take (m + k) (drop at s)
  glued m k at xs ys e f =
      ap₂ (λ (a b : List ℕ). a ++ b) e (f ∙ ap (take k) (sym (drop-drop m at s))) ∙ sym (take-add m k (drop at s))

  pair_of : (at : ℕ) → at + 2 ≤ length s → get_or s at 0 ∷ get_or s (at + 1) 0 ∷ [] ≡ take 2 (drop at s)
  pair_of at h =
      ap (λ (j : ℕ). get_or s at 0 ∷ get_or s j 0 ∷ []) (add-one at)
      ∙ sym (ap (take 2) (drop-cons s at 0 (omega (arith, h))) ∙ ap (λ (r : List ℕ). get_or s at 0 ∷ take 1 r) (drop-cons s (suc at) 0 (omega (arith, h))))

  -- of bytes: the numbers in them, and their bytes again
  module _ (bytes : ByteString s) where
    u16_below : (at : ℕ) → at + 2 ≤ length s → u16_at s at < 65536
    u16_below at h = omega (arith, bytes.each at (omega (arith, h)), bytes.each (at + 1) (omega (arith, h)))

    u32_below : (at : ℕ) → at + 4 ≤ length s → u32_at s at < 2 ^ 32
    u32_below at h = omega (arith, u16_below at (omega (arith, h)), u16_below (at + 2) (omega (arith, h)))

    two_of : (at k : ℕ) → at ≡ k → at + 2 ≤ length s → le16 (u16_at s at) ≡ take 2 (drop k s)
    two_of at k e h =
        bytes_two (get_or s at 0) (get_or s (at + 1) 0) (bytes.each at (omega (arith, h))) (bytes.each (at + 1) (omega (arith, h)))
        ∙ pair_of at h ∙ ap (λ (j : ℕ). take 2 (drop j s)) e

    four_of : (at k : ℕ) → at ≡ k → at + 4 ≤ length s → le32 (u32_at s at) ≡ take 4 (drop k s)
    four_of at k e h =
        let b = u16_below at (omega (arith, h)) in
        let low : u32_at s at % 65536 ≡ u16_at s at = omega (arith, b) in
        let high : u32_at s at / 65536 ≡ u16_at s (at + 2) = omega (arith, b) in
        ap₂ (λ (x y : ℕ). le16 x ++ le16 y) low high
        ∙ glued 2 2 k (le16 (u16_at s at)) (le16 (u16_at s (at + 2))) (two_of at k e (omega (arith, h))) (two_of (at + 2) (k + 2) (omega (arith, e)) (omega (arith, h)))

    record_of : (at : ℕ) → at + 12 ≤ length s → record_bytes (u32_at s (at + 0)) (u32_at s (at + 4)) (u32_at s (at + 8)) ≡ take 12 (drop at s)
    record_of at h =
        let a = le32 (u32_at s (at + 0)) in
        let d = le32 (u32_at s (at + 4)) in
        let w = le32 (u32_at s (at + 8)) in
        glued 8 4 at (a ++ d) w
        (glued 4 4 at a d (four_of (at + 0) at (omega arith) (omega (arith, h))) (four_of (at + 4) (at + 4) refl (omega (arith, h))))
        (four_of (at + 8) (at + 8) refl (omega (arith, h)))

-- ---- the records of a part
module _ (part : List ℕ) (bytes : ByteString part) (n : ℕ) (long : length part ≡ 12 * n) where
  number : (i at : ℕ) → i < n → get_or (column_in part n at) i 0 ≡ u32_at part (12 * i + at)
  number i at h = get_or-listed n (λ j. u32_at part (12 * j + at)) i h

  records_first : (i : ℕ) → i ≤ n → records_up_to (column_in part n 0) (column_in part n 4) (column_in part n 8) i ≡ take (12 * i) part
  unfolding records_up_to
  records_first zero h = refl
  records_first (suc i) h =
      let l : i < n = omega (arith, h) in
      let same : record_bytes (get_or (column_in part n 0) i 0) (get_or (column_in part n 4) i 0) (get_or (column_in part n 8) i 0) ≡ record_bytes (u32_at part (12 * i + 0)) (u32_at part (12 * i + 4)) (u32_at part (12 * i + 8)) =
      ap (λ (a : ℕ). record_bytes a (get_or (column_in part n 4) i 0) (get_or (column_in part n 8) i 0)) (number i 0 l)
      ∙ ap₂ (λ (d w : ℕ). record_bytes (u32_at part (12 * i + 0)) d w) (number i 4 l) (number i 8 l) in
      let e : 12 * i + 12 ≡ 12 * suc i = omega arith in
      ap₂ (λ (a b : List ℕ). a ++ b) (records_first i (omega (arith, h))) (same ∙ record_of part bytes (12 * i) (omega (arith, h, long)))
      ∙ sym (take-add (12 * i) 12 part) ∙ ap (λ (k : ℕ). take k part) e

  records_again : records_up_to (column_in part n 0) (column_in part n 4) (column_in part n 8) n ≡ part
  records_again = records_first n (omega arith) ∙ take_all (12 * n) part (omega (arith, long))

  column_fits : (i at : ℕ) → i < n → at + 4 ≤ 12 → get_or (column_in part n at) i 0 < 2 ^ 32
  column_fits i at h k =
      let b : u32_at part (12 * i + at) < 2 ^ 32 = u32_below part bytes (12 * i + at) (omega (arith, h, k, long)) in
      omega (arith, b, number i at h)

  records_fit : RecordsFit (column_in part n 0) (column_in part n 4) (column_in part n 8) n
  records_fit = record { each = λ i h. record { arrival_fits = column_fits i 0 h (omega arith); deadline_fits = column_fits i 4 h (omega arith); operations_fit = column_fits i 8 h (omega arith) } }

-- ---- the trailer, and the whole
module _ (s : List ℕ) (bytes : ByteString s) (marked : ends_in s mark ≡ true) (f : Passed (file_rules s)) where
  abbrev count : ℕ
  count = count_of s

  abbrev trailer : Trailer
  trailer = record { count = count_of s; terms = terms_of s }

  file : FileIs s 16
  file = plain_file s marked f

  trailer_again : trailer_bytes trailer ≡ take 16 (drop (length s - 16) s)
  trailer_again =
      let at = length s - 16 in
      let l = file.long in
      let m = its_bytes s mark marked in
      let b = le32 (16 + 12 * count) in
      let r = le32 (reference_of s) in
      let c = le16 count in
      let p = le16 (p_of s) in
      let q = le16 (q_of s) in
      let next : length s - 1 ≡ length s - 2 + 1 = omega (arith, l) in
      let there : length s - 2 ≡ at + 14 = omega (arith, l) in
      let last : mark ≡ take 2 (drop (at + 14) s) =
      ap₂ (λ (x y : ℕ). x ∷ y ∷ []) (sym m.0) (sym m.1 ∙ ap (λ (k : ℕ). get_or s k 0) next)
      ∙ pair_of s (length s - 2) (omega (arith, l)) ∙ ap (λ (k : ℕ). take 2 (drop k s)) there in
      glued s 14 2 at (b ++ r ++ c ++ p ++ q) mark
      (glued s 12 2 at (b ++ r ++ c ++ p) q
      (glued s 10 2 at (b ++ r ++ c) p
      (glued s 8 2 at (b ++ r) c
      (glued s 4 4 at b r (ap le32 (sym file.back_is) ∙ four_of s bytes at at refl (omega (arith, l)))
      (four_of s bytes (length s - 12) (at + 4) (omega (arith, l)) (omega (arith, l))))
      (two_of s bytes (length s - 8) (at + 8) (omega (arith, l)) (omega (arith, l))))
      (two_of s bytes (length s - 6) (at + 10) (omega (arith, l)) (omega (arith, l))))
      (two_of s bytes (length s - 4) (at + 12) (omega (arith, l)) (omega (arith, l))))
      last

  -- its records' bytes
  part_long : length (records_of s) ≡ 12 * count
  part_long =
      let d : length (drop (records_at s) s) ≡ length s - records_at s = length-drop (records_at s) s in
      length-take-le (12 * count) (drop (records_at s) s) (omega (arith, d, file.back_is, file.back_in))

  part_bytes : ByteString (records_of s)
  part_bytes = record {
    each = λ i h.
        let from = records_at s in
        let b : get_or s (from + i) 0 < 256 = bytes.each (from + i) (omega (arith, h, part_long, file.back_is, file.back_in)) in
        let e : get_or (records_of s) i 0 ≡ get_or s (from + i) 0 = get_or-take (12 * count) (drop from s) i 0 (omega (arith, h, part_long)) ∙ get_or-drop from s i 0 in
        omega (arith, b, e);
  }

  count_shown : length (shown s).arrivals ≡ count
  count_shown = column_long (records_of s) count 0

  -- What a roll shows, a roll can carry.
  pub shown_packable : Packable (shown s)
  shown_packable = record {
    even = record { deadlines_long = column_long (records_of s) count 4 ∙ sym count_shown; operations_long = column_long (records_of s) count 8 ∙ sym count_shown };
    records_fit = record { each = λ i h. (records_fit (records_of s) part_bytes count part_long).each i (omega (arith, h, count_shown)) };
    reference_fits = u32_below s bytes (length s - 12) (omega (arith, file.long));
    count_fits = let b = u16_below s bytes (length s - 8) (omega (arith, file.long)) in omega (arith, b, count_shown);
    p_fits = u16_below s bytes (length s - 6) (omega (arith, file.long));
    q_fits = u16_below s bytes (length s - 4) (omega (arith, file.long));
  }

  -- Packing what a roll shows gives the roll's bytes again, from its first record on.
  pub writes_back_behind : roll_bytes (shown s) ≡ drop (records_at s) s
  writes_back_behind =
      let from = records_at s in
      let x = shown s in
      let d : length (drop from s) ≡ length s - from = length-drop from s in
      let there : length s - 16 ≡ from + 12 * count = omega (arith, file.back_is, file.back_in) in
      ap (λ (n : ℕ). records_up_to x.arrivals x.deadlines x.operations n ++ trailer_bytes (record { count = n; terms = terms_of s })) count_shown
      ∙ glued s (12 * count) 16 from (records_up_to x.arrivals x.deadlines x.operations count) (trailer_bytes trailer)
      (records_again (records_of s) part_bytes count part_long)
      (trailer_again ∙ ap (λ (k : ℕ). take 16 (drop k s)) there)
      ∙ take_all (12 * count + 16) (drop from s) (omega (arith, d, file.back_is, file.back_in))

  -- Where there is no preface, that is the roll.
  pub writes_back : length s ≡ back_of s → roll_bytes (shown s) ≡ s
  writes_back e =
      let none : records_at s ≡ 0 = omega (arith, e) in
      writes_back_behind ∙ ap (λ (k : ℕ). drop k s) none
