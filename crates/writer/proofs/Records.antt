-- Records one behind the other: how long they are, and a roll with them; and that the numbers in them fit their bytes.
-- Assumes nothing.
use Prim.Native.Nat.{ℕ, zero, suc, ◌+◌, ◌*◌, ◌^◌, ◌<◌}
use mathlib.Core.Path.{◌≡◌, refl, subst}
use mathlib.Core.List.{List, ◌++◌}
use native.Mathlib.Omega.{arith}
use Rattle.fraction.proofs.Scale.{cases}
use lib.ListN.{length, get_or, length-append}
use Rattle.rules.specs.Leaves.{Even}
use Rattle.writer.specs.Bytes.{Listing, record_bytes, records_up_to, records_bytes, trailer_bytes, trailer_for, roll_long, roll_bytes}
use Rattle.writer.specs.Inside.{RecordFits, RecordsFit}

pub length-records : (xs ys ws : List ℕ) (n : ℕ) → length (records_up_to xs ys ws n) ≡ 12 * n
unfolding records_up_to
length-records xs ys ws zero = refl
length-records xs ys ws (suc n) =
    let r = record_bytes (get_or xs n 0) (get_or ys n 0) (get_or ws n 0) in
    let e : length (records_up_to xs ys ws n ++ r) ≡ length (records_up_to xs ys ws n) + 12 = length-append (records_up_to xs ys ws n) r in
    omega (arith, e, length-records xs ys ws n)

pub length-records_bytes : (x : Listing) → length (records_bytes x) ≡ 12 * length x.arrivals
length-records_bytes x = length-records x.arrivals x.deadlines x.operations (length x.arrivals)

-- A roll has 16 bytes, and 12 for each report.
pub length-roll_bytes : (x : Listing) → length (roll_bytes x) ≡ roll_long (length x.arrivals)
length-roll_bytes x =
    let e : length (roll_bytes x) ≡ length (records_bytes x) + 16 = length-append (records_bytes x) (trailer_bytes (trailer_for x)) in
    omega (arith, e, length-records_bytes x)

-- ---- numbers that fit, record by record
pub fits_none : {xs ys ws : List ℕ} → RecordsFit xs ys ws 0
fits_none = record { each = λ i h. absurd (omega (arith, h)) }

pub fits_more : {xs ys ws : List ℕ} {n : ℕ} → RecordsFit xs ys ws n → RecordFits (get_or xs n 0) (get_or ys n 0) (get_or ws n 0) → RecordsFit xs ys ws (n + 1)
fits_more {xs} {ys} {ws} {n} f r = record {
  each = λ i h.
      cases i n (f.each i)
      (λ g. let e : n ≡ i = omega (arith, h, g) in subst (λ (k : ℕ). RecordFits (get_or xs k 0) (get_or ys k 0) (get_or ws k 0)) e r);
}

-- ---- what a roll can carry
-- A list that a roll can carry: three lists of one length, and each number fits its bytes.
pub record Packable (x : Listing) : Type 0 where
  pub even : Even x.arrivals x.deadlines x.operations
  pub records_fit : RecordsFit x.arrivals x.deadlines x.operations (length x.arrivals)
  pub reference_fits : x.terms.reference < 2 ^ 32
  pub count_fits : length x.arrivals < 2 ^ 16
  pub p_fits : x.terms.p < 2 ^ 16
  pub q_fits : x.terms.q < 2 ^ 16
