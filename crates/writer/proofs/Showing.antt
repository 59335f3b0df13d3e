-- What the reader shows of a roll that `write` has written, and what `write` writes of one that was read.
-- Assumes nothing.
use Prim.Native.Nat.{ℕ, ◌+◌, ◌*◌, ◌≤◌}
use mathlib.Core.Path.{◌≡◌, refl, sym, ◌∙◌, ap, subst, subst₂}
use mathlib.Core.Bool.{true}
use mathlib.Core.List.{List, ◌++◌}
use native.Mathlib.Omega.{arith}
use lib.ListN.{length, take, drop}
use lib.Seq.{length-take-le}
use denote.Ref.{Bor}
use Rattle.lists.proofs.Putting.{put_long}
use Rattle.trials.specs.Rules.{Accepted}
use Rattle.trials.proofs.Passing.{Passed}
use Rattle.trials.proofs.Single.{not_refused}
use Rattle.std.specs.Prelude.{Option, None}
use Rattle.fraction.specs.declared.Pace.{Pace}
use Rattle.roll.specs.Format.{mark, ends_in, count_of, back_of, file_rules, records_at, records_long}
use Rattle.roll.specs.Answers.{floor_numbers, NumbersIs, PartFrom, PartIs}
use Rattle.roll.specs.declared.Numbers.{Numbers}
use Rattle.roll.proofs.Marking.{without_floor, plain_mark}
use Rattle.roll.proofs.FileRules.{plain_file}
use Rattle.roll.proofs.OneResult.{one_numbers}
use Rattle.writer.specs.Bytes.{Listing, roll_bytes, shown, ReadsBack, ByteString}
use Rattle.writer.specs.Writing.{WriteOutcome, Writable}
use Rattle.writer.proofs.Records.{length-roll_bytes}
use Rattle.writer.proofs.Outcomes.{exactly_when, inside}
use Rattle.writer.proofs.WritingBack.{shown_packable, writes_back}

module _ (x : Listing) (before : List ℕ) (at place bytes : ℕ) (after : List ℕ) (o : WriteOutcome x before at 0 place bytes after) (b : ReadsBack (take (at + bytes) after) x) where
  abbrev roll : List ℕ
  roll = take (at + bytes) after

  abbrev n : ℕ
  n = length x.arrivals

  -- its end is the roll's, and what stands before the place is the preface
  roll_ends : (length roll ≡ at + bytes) × (bytes ≡ 16 + 12 * n)
  unfolding WriteOutcome
  roll_ends =
      let f = inside x before at bytes (record { accepted = o.0 }) o.2 in
      (length-take-le (at + bytes) after (omega (arith, f.0, f.1, put_long o.2 f.1)), f.0 ∙ length-roll_bytes x)

  begins : records_at roll ≡ at
  begins =
      let f = plain_file roll b.marked (record { accepted = b.accepted }) in
      omega (arith, roll_ends.0, roll_ends.1, f.back_is, b.count_is)

  long : records_long roll ≡ 12 * n
  long = ap (λ (k : ℕ). 12 * k) b.count_is

  -- the reader's numbers
  pub numbers_shown :
      (m : Numbers) → NumbersIs roll m →
      m ≡ record { refusal = 0; trailer = record { count = length x.arrivals; terms = x.terms }; floor = floor_numbers None; at = at; size = 12 * length x.arrivals }
  numbers_shown m is =
      one_numbers roll m _ is (record {
        accepted = λ _. record {
          refusal_is = refl;
          trailer_is = record { count_is = sym b.count_is; terms_is = sym (ap (λ (y : Listing). y.terms) b.list_is) };
          floor_is = sym (ap (λ (f : Option Pace). floor_numbers f) (without_floor roll (plain_mark roll b.marked)).1);
          at_is = sym begins;
          size_is = sym long;
        };
        refused = λ number p r. absurd (not_refused (file_rules roll) b.accepted number p r);
      })

  -- and the part that it hands back
  pub part_shown : (s part : Bor (List ℕ)) → s.now ≡ roll → PartIs s part → PartFrom s at (12 * length x.arrivals) part
  part_shown s part e is =
      subst₂ (λ (from size : ℕ). PartFrom s from size part) (ap records_at e ∙ begins) (ap records_long e ∙ long)
      (is.accepted (subst (λ (t : List ℕ). Accepted (file_rules t)) (sym e) b.accepted))

-- ---- a roll marked AQ that was read, without preface and of at most 1,024 reports
module _ (s : List ℕ) (bytes : ByteString s) (marked : ends_in s mark ≡ true) (p : Passed (file_rules s)) (alone : length s ≡ back_of s) (few : count_of s ≤ 1024) (before : List ℕ) (at : ℕ) (room : at + length s ≤ length before) where
  abbrev x : Listing
  x = shown s

  -- can be written,
  writable : Writable x before at
  writable =
      let k = shown_packable s bytes marked p in
      let e : length (roll_bytes x) ≡ length s = ap length (writes_back s bytes marked p alone) in
      let f = plain_file s marked p in
      record {
        as_many_deadlines = k.even.deadlines_long;
        as_many_operations = k.even.operations_long;
        few = omega (arith, e, length-roll_bytes x, alone, f.back_is, few);
        p_most = omega (arith, k.p_fits);
        q_most = omega (arith, k.q_fits);
        room = omega (arith, e, length-roll_bytes x, room);
      }

  -- and is written as it was
  again : (place n : ℕ) (after : List ℕ) → WriteOutcome (shown s) before at 0 place n after → (place ≡ 0) × (n ≡ length s) × (after ≡ take at before ++ (s ++ drop (at + length s) before))
  unfolding WriteOutcome
  again place n after o =
      let e = writes_back s bytes marked p alone in
      (o.1, (inside x before at n (record { accepted = o.0 }) o.2).0 ∙ ap length e, o.2.written ∙ ap (λ (t : List ℕ). take at before ++ (t ++ drop (at + length t) before)) e)

  pub written_again :
      (number place n : ℕ) (after : List ℕ) → WriteOutcome (shown s) before at number place n after →
      (number ≡ 0) × (place ≡ 0) × (n ≡ length s) × (after ≡ take at before ++ (s ++ drop (at + length s) before))
  written_again number place n after o =
      let e : number ≡ 0 = (exactly_when x before at number place n after o).1 writable in
      let w = again place n after (subst (λ (k : ℕ). WriteOutcome x before at k place n after) e o) in
      (e, w.0, w.1, w.2)
