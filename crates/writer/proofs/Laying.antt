-- Bytes, numbers, a record and a trailer put one behind the other. Each number and each place comes with an equation, so that a wrong one is refused by itself and named.
-- Assumes nothing.
use Prim.Native.Nat.{ℕ, ◌+◌, ◌*◌, ◌/◌, ◌%◌, ◌≤◌}
use mathlib.Core.Path.{◌≡◌, refl, ◌∙◌, ap, ap₂, subst}
use mathlib.Core.List.{List, ◌++◌}
use native.Mathlib.Omega.{arith}
use lib.ListN.{length, get_or}
use Rattle.std.specs.Int.{w32, to_le_bytes}
use Rattle.lists.specs.Puts.{Puts}
use Rattle.lists.proofs.Putting.{puts_as, puts_to, puts_then, Turns, one_turn}
use Rattle.roll.specs.Format.{mark}
use Rattle.roll.specs.declared.Trailer.{Trailer}
use Rattle.writer.specs.Bytes.{le16, le32, record_bytes, records_up_to, roll_long, trailer_bytes}
use Rattle.writer.specs.Inside.{RecordFits, RecordsFit}
use Rattle.writer.proofs.Records.{fits_more}

-- ---- a number's bytes: those of an equal number; and its four, as the machine gives them
pub low_of : {b : List ℕ} {n m : ℕ} → b ≡ le16 n → n ≡ m → b ≡ le16 m
low_of e f = e ∙ ap le16 f

pub four_low : {b : List ℕ} {n m : ℕ} → b ≡ to_le_bytes w32 n → n ≡ m → b ≡ le32 m
four_low {b} {n} {m} e f =
    let second : n / 256 % 256 ≡ n % 65536 / 256 % 256 = omega arith in
    let low : n % 256 ≡ n % 65536 % 256 = omega arith in
    let high : n / 16777216 % 256 ≡ n / 65536 / 256 % 256 = omega arith in
    let all : to_le_bytes w32 n ≡ le32 n = cc (low, second, high) in
    e ∙ all ∙ ap le32 f

-- ---- one record more
-- i records are put, and their numbers fit
abbrev pub Laid : List ℕ → List ℕ → List ℕ → List ℕ → ℕ → List ℕ → Type 0
Laid xs ys ws before i part = (i ≤ length xs) × Turns before 0 (records_up_to xs ys ws) 12 i (12 * i) part × RecordsFit xs ys ws i

module _ (xs ys ws : List ℕ) where
  pub record_more :
      {before part after : List ℕ} {i p s : ℕ} (a d o : ℕ) → a ≡ get_or xs i 0 → d ≡ get_or ys i 0 → o ≡ get_or ws i 0 → p ≡ 12 * i → s ≡ p + 12 →
      i + 1 ≤ length xs → length after ≡ length part → Laid xs ys ws before i part → Puts part p (record_bytes a d o) s after → RecordFits a d o → Laid xs ys ws before (i + 1) after
  unfolding records_up_to
  record_more {before} {part} {after} {i} a d o e f g there end h long w put fits =
      let same : record_bytes a d o ≡ record_bytes (get_or xs i 0) (get_or ys i 0) (get_or ws i 0) = ap (λ (x : ℕ). record_bytes x d o) e ∙ ap₂ (λ (y z : ℕ). record_bytes (get_or xs i 0) y z) f g in
      let fit : RecordFits (get_or xs i 0) (get_or ys i 0) (get_or ws i 0) = record { arrival_fits = omega (arith, fits.arrival_fits, e); deadline_fits = omega (arith, fits.deadline_fits, f); operations_fit = omega (arith, fits.operations_fit, g) } in
      let r = record_bytes (get_or xs i 0) (get_or ys i 0) (get_or ws i 0) in
      let from : Puts part (12 * i) r (12 * (i + 1)) after = subst (λ (k : ℕ). Puts part k r (12 * (i + 1)) after) there (puts_to (omega (arith, there, end)) (puts_as same put)) in
      (h, one_turn w.1 from refl (omega arith) long, fits_more w.2 fit)

-- ---- all of them, once the loop has passed the last
pub all_records :
    {xs ys ws before after : List ℕ} {i : ℕ} → length xs ≤ i → Laid xs ys ws before i after →
    Puts before 0 (records_up_to xs ys ws (length xs)) (12 * length xs) after × RecordsFit xs ys ws (length xs)
all_records {xs} {ys} {ws} {before} {after} {i} h inv =
    let e : i ≡ length xs = omega (arith, h, inv.0) in
    subst (λ (n : ℕ). Puts before 0 (records_up_to xs ys ws n) (12 * n) after × RecordsFit xs ys ws n) e (inv.1.put, inv.2)

-- ---- a trailer's numbers, one behind the other
pub trailer_put :
    (t : Trailer) {out a b c d e after : List ℕ} {back reference count p q : List ℕ} {r₁ r₂ r₃ r₄ r₅ s : ℕ} →
    back ≡ le32 (roll_long t.count) → reference ≡ le32 t.terms.reference → count ≡ le16 t.count → p ≡ le16 t.terms.p → q ≡ le16 t.terms.q →
    Puts out 0 back r₁ a → Puts a r₁ reference r₂ b → Puts b r₂ count r₃ c → Puts c r₃ p r₄ d → Puts d r₄ q r₅ e → Puts e r₅ mark s after →
    Puts out 0 (trailer_bytes t) 16 after
trailer_put t f g h k l m n o u v w =
    let all = puts_then (puts_then (puts_then (puts_then (puts_then (puts_as f m) (puts_as g n)) (puts_as h o)) (puts_as k u)) (puts_as l v)) w in
    puts_to all.behind all

-- equal numbers, equal trailers
pub same_trailer :
    (t : Trailer) (back reference count p q : ℕ) → back ≡ roll_long t.count → reference ≡ t.terms.reference → count ≡ t.count → p ≡ t.terms.p → q ≡ t.terms.q →
    le32 back ++ le32 reference ++ le16 count ++ le16 p ++ le16 q ++ mark ≡ trailer_bytes t
same_trailer t back reference count p q e f g h k =
    ap (λ (x : ℕ). le32 x ++ le32 reference ++ le16 count ++ le16 p ++ le16 q ++ mark) e
    ∙ ap₂ (λ (x y : ℕ). le32 (roll_long t.count) ++ le32 x ++ le16 y ++ le16 p ++ le16 q ++ mark) f g
    ∙ ap₂ (λ (x y : ℕ). le32 (roll_long t.count) ++ le32 t.terms.reference ++ le16 t.count ++ le16 x ++ le16 y ++ mark) h k
