-- The free preface is never looked at: two rolls with the same last bytes, from the first record on, have the same outcome.
-- Assumes nothing.
use Prim.Native.Nat.{ℕ, ◌+◌, ◌*◌, ◌-◌, ◌≤◌}
use mathlib.Core.Path.{◌≡◌, refl, sym, ◌∙◌, ap, ap₂, subst}
use mathlib.Core.Bool.{Bool, true, false, cond}
use mathlib.Core.List.{List, ◌++◌}
use mathlib.Core.Logic.{inl, inr, ⊎_elim}
use native.Mathlib.Omega.{arith}
use lib.ListN.{length, get_or, take, drop, length-append}
use lib.Seq.{get_or-append-add, drop-append-add}
use Rattle.trials.proofs.Alike.{Alike, alike_none, alike_more, alike_back, alike_accepted, alike_refused, same_overall}
use Rattle.rules.specs.Offsets.{Input, reports_of, fastest_of}
use Rattle.rules.specs.Rules.{plan_rules}
use Rattle.rules.specs.declared.Roll.{Roll}
use Rattle.fraction.specs.declared.Pace.{Pace}
use Rattle.std.specs.Prelude.{Option, Some}
use Rattle.planner.specs.Outcome.{PlanOutcome}
use Rattle.planner.proofs.Outcomes.{by_either, refused_outcome, goes_on}
use Rattle.roll.specs.Format.{u16_at, u32_at, back_of, count_of, terms_of, mark, floor_mark, ends_in, has_floor, trailer_long, floor_of, Marked, file_rules, records_of, input_in, input_of, RollOutcome}
use Rattle.roll.proofs.Marking.{same_ends, with_floor, without_floor, trailer_range}

-- two rolls with the same list, whose file rules are given alike, have the same outcome
same_outcome :
    (a b buffer : List ℕ) (number place blocks : ℕ) (after : List ℕ) →
    Alike (file_rules a) (file_rules b) → input_of a buffer ≡ input_of b buffer →
    RollOutcome a buffer number place blocks after → RollOutcome b buffer number place blocks after
same_outcome a b buffer number place blocks after alike e o =
    let x = input_of a buffer in
    let y = input_of b buffer in
    ⊎_elim
    (λ r. refused_outcome (reports_of y) (fastest_of y) buffer (file_rules b) (plan_rules y) number place blocks after (record { numbered = r.numbered; refused = alike_refused number place alike r.refused; no_blocks = r.no_blocks; untouched = r.untouched }))
    (λ p. goes_on (reports_of y) (fastest_of y) buffer (file_rules b) (plan_rules y) number place blocks after (record { accepted = alike_accepted alike p.0.accepted })
    (subst (λ (z : Input). PlanOutcome z number place blocks after) e p.1))
    (by_either (reports_of x) (fastest_of x) buffer (file_rules a) (plan_rules x) number place blocks after o)

module _ (preface rest : List ℕ) where
  abbrev s : List ℕ
  s = preface ++ rest

  -- ---- numbers behind the preface
  byte : (i : ℕ) → get_or s (length preface + i) 0 ≡ get_or rest i 0
  byte i = get_or-append-add preface rest i 0

  two : (i : ℕ) → u16_at s (length preface + i) ≡ u16_at rest i
  two i =
      let e : length preface + i + 1 ≡ length preface + (i + 1) = omega arith in
      ap₂ (λ (a b : ℕ). a + 256 * b) (byte i) (ap (λ (k : ℕ). get_or s k 0) e ∙ byte (i + 1))

  four : (i : ℕ) → u32_at s (length preface + i) ≡ u32_at rest i
  four i =
      let e : length preface + i + 2 ≡ length preface + (i + 2) = omega arith in
      ap₂ (λ (a b : ℕ). a + 65536 * b) (two i) (ap (λ (k : ℕ). u16_at s k) e ∙ two (i + 2))

  -- a place counted from the end
  from_end : (k : ℕ) → k ≤ length rest → length s - k ≡ length preface + (length rest - k)
  from_end k h = omega (arith, length-append preface rest, h)

  byte_end : (k : ℕ) → k ≤ length rest → get_or s (length s - k) 0 ≡ get_or rest (length rest - k) 0
  byte_end k h = ap (λ (j : ℕ). get_or s j 0) (from_end k h) ∙ byte (length rest - k)

  two_end : (k : ℕ) → k ≤ length rest → u16_at s (length s - k) ≡ u16_at rest (length rest - k)
  two_end k h = ap (λ (j : ℕ). u16_at s j) (from_end k h) ∙ two (length rest - k)

  four_end : (k : ℕ) → k ≤ length rest → u32_at s (length s - k) ≡ u32_at rest (length rest - k)
  four_end k h = ap (λ (j : ℕ). u32_at s j) (from_end k h) ∙ four (length rest - k)

  module _ (long : trailer_long rest ≤ length rest) (reaches : back_of rest ≤ length rest) where
    least : 16 ≤ length rest
    least = omega (arith, long, (trailer_range rest).0)

    -- ---- the trailer is the same
    back_same : back_of s ≡ back_of rest
    back_same = four_end 16 least

    count_same : count_of s ≡ count_of rest
    count_same = two_end 8 (omega (arith, least))

    terms_same : terms_of s ≡ terms_of rest
    terms_same =
        ap (λ (k : ℕ). terms k (u16_at s (length s - 6)) (u16_at s (length s - 4))) (four_end 12 (omega (arith, least)))
        ∙ ap₂ (λ (p q : ℕ). terms (u32_at rest (length rest - 12)) p q) (two_end 6 (omega (arith, least))) (two_end 4 (omega (arith, least)))
      where
        terms : ℕ → ℕ → ℕ → Roll
        terms reference p q = record { reference = reference; p = p; q = q }

    records_same : records_of s ≡ records_of rest
    records_same =
        let e : length s - back_of s ≡ length preface + (length rest - back_of rest) = ap (λ (k : ℕ). length s - k) back_same ∙ from_end (back_of rest) reaches in
        ap₂ (λ (k : ℕ) (l : List ℕ). take (12 * k) l) count_same (ap (λ (k : ℕ). drop k s) e ∙ drop-append-add preface rest (length rest - back_of rest))

    -- the marks too, and so the floor
    ends_same : (m : List ℕ) → ends_in s m ≡ ends_in rest m
    ends_same m = same_ends s rest m (byte_end 2 (omega (arith, least))) (byte_end 1 (omega (arith, least)))

    long_same : trailer_long s ≡ trailer_long rest
    unfolding trailer_long
    long_same = ap (λ (b : Bool). cond b 20 16) (ends_same floor_mark)

    floor_same : floor_of s ≡ floor_of rest
    floor_same = go (has_floor rest) refl
      where
        go : (b : Bool) → has_floor rest ≡ b → floor_of s ≡ floor_of rest
        go true e =
            let n : 20 ≤ length rest = omega (arith, long, (with_floor rest e).0) in
            (with_floor s (ends_same floor_mark ∙ e)).1
            ∙ ap₂ (λ (r t : ℕ). Some (record { ticks = r; operations = t })) (two_end 20 n) (two_end 18 (omega (arith, n))) ∙ sym (with_floor rest e).1
        go false e = (without_floor s (ends_same floor_mark ∙ e)).1 ∙ sym (without_floor rest e).1

    -- so is the list
    input_same : (buffer : List ℕ) → input_of s buffer ≡ input_of rest buffer
    input_same buffer =
        ap (λ (part : List ℕ). input_in part (count_of s) (terms_of s) (floor_of s) buffer) records_same
        ∙ ap₂ (λ (k : ℕ) (t : Roll). input_in (records_of rest) k t (floor_of s) buffer) count_same terms_same
        ∙ ap (λ (f : Option Pace). input_in (records_of rest) (count_of rest) (terms_of rest) f buffer) floor_same

    -- ---- and the file rules are given alike
    marked_there : Marked s → Marked rest
    marked_there m = record { is = ⊎_elim (λ e. inl (sym (ends_same mark) ∙ e)) (λ e. inr (sym (ends_same floor_mark) ∙ e)) m.is }

    marked_back : Marked rest → Marked s
    marked_back m = record { is = ⊎_elim (λ e. inl (ends_same mark ∙ e)) (λ e. inr (ends_same floor_mark ∙ e)) m.is }

    files_alike : Alike (file_rules s) (file_rules rest)
    files_alike =
        let n : length s ≡ length preface + length rest = length-append preface rest in
        let back : trailer_long s + 12 * count_of s ≡ trailer_long rest + 12 * count_of rest = ap₂ (λ (a b : ℕ). a + 12 * b) long_same count_same in
        alike_more (same_overall (λ h. absurd (omega (arith, n, long_same, long, h))) (λ h. absurd (omega (arith, long, h))))
        (alike_more (same_overall (λ h m. h (marked_back m)) (λ h m. h (marked_there m)))
        (alike_more (same_overall (λ h e. h (back_same ∙ e ∙ sym back)) (λ h e. h (sym back_same ∙ e ∙ back)))
        (alike_more (same_overall (λ h. absurd (omega (arith, n, back_same, reaches, h))) (λ h. absurd (omega (arith, reaches, h)))) alike_none)))

-- Whatever stands before the first record: the outcome is the same.
pub the_preface_has_no_influence :
    (preface other rest buffer : List ℕ) (number place blocks : ℕ) (after : List ℕ) →
    trailer_long rest ≤ length rest → back_of rest ≤ length rest →
    RollOutcome (preface ++ rest) buffer number place blocks after → RollOutcome (other ++ rest) buffer number place blocks after
the_preface_has_no_influence preface other rest buffer number place blocks after long reaches o =
    same_outcome rest (other ++ rest) buffer number place blocks after (alike_back (files_alike other rest long reaches)) (sym (input_same other rest long reaches buffer))
    (same_outcome (preface ++ rest) rest buffer number place blocks after (files_alike preface rest long reaches) (input_same preface rest long reaches buffer) o)
