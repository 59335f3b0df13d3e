-- What is written is what the buoys read: for the shore office and the inspector. Each statement about `write` follows from its promise alone, which is proved of the running code for every input: `WriteOutcome`
-- (specs/Writing.antt) says what comes back and what the buffer then holds, and `ReadsBack` (specs/Bytes.antt) that what is written reads back. x is the list with its reference, P and Q; before is the buffer as it is lent, and at
-- the place in it; number, place, bytes and after are what `write` returns and what the buffer then holds.
-- Nothing is assumed.
use Prim.Native.Nat.{ℕ, ◌+◌, ◌*◌, ◌≤◌, ◌<◌}
use mathlib.Core.Path.{◌≡◌, sym, ◌∙◌, ap, subst}
use mathlib.Core.Bool.{true}
use mathlib.Core.List.{List, ◌++◌}
use mathlib.Core.Logic.{◌↔◌}
use lib.ListN.{length, get_or, take, drop}
use denote.Ref.{Bor}
use Rattle.trials.specs.Rules.{Accepted}
use Rattle.rules.specs.Offsets.{Input, reports_of, fastest_of}
use Rattle.rules.specs.Rules.{plan_rules}
use Rattle.std.specs.Prelude.{Option, None}
use Rattle.fraction.specs.declared.Pace.{Pace}
use Rattle.planner.specs.Outcome.{PlanOutcome}
use Rattle.planner.proofs.Outcomes.{goes_on}
use Rattle.roll.specs.Format.{mark, ends_in, floor_of, count_of, reference_of, p_of, q_of, terms_of, back_of, file_rules, records_at, records_of, column_in, input_in, input_of, RollOutcome}
use Rattle.roll.specs.Answers.{floor_numbers, NumbersIs, PartFrom, PartIs}
use Rattle.roll.specs.declared.Numbers.{Numbers}
use Rattle.roll.proofs.Marking.{without_floor, plain_mark}
use Rattle.roll.proofs.Demands as Roll
use Rattle.writer.specs.Bytes.{Listing, roll_long, roll_bytes, shown, ReadsBack, handed, ByteString}
use Rattle.writer.specs.Writing.{WriteOutcome, Writable}
use Rattle.writer.proofs.Outcomes as Of
use Rattle.writer.proofs.OneResult as One
use Rattle.writer.proofs.Showing as Shown
use Rattle.writer.proofs.WritingBack as Back

module _ (x : Listing) (before : List ℕ) (at : ℕ) where
  -- ---- Every list, with every buffer and every place, has an answer,
  pub every_list_is_answered : (number : ℕ) × (place : ℕ) × (bytes : ℕ) × (after : List ℕ) × WriteOutcome x before at number place bytes after
  every_list_is_answered = One.some_write x before at

  -- one only.
  pub by_one_answer_only :
      (number place bytes number' place' bytes' : ℕ) (after after' : List ℕ) →
      WriteOutcome x before at number place bytes after → WriteOutcome x before at number' place' bytes' after' →
      (number ≡ number') × (place ≡ place') × (bytes ≡ bytes') × (after ≡ after')
  by_one_answer_only = One.one_write x before at

  module _ (number place bytes : ℕ) (after : List ℕ) (o : WriteOutcome x before at number place bytes after) where
    -- A list is written exactly when its three lists have one length, of at most 1,024 reports, P and Q are at most 65,535, and the roll has room behind the place. Nothing else is asked: no plan rule is tried.
    pub written_exactly_when_it_can_be : (number ≡ 0) ↔ Writable x before at
    written_exactly_when_it_can_be = Of.exactly_when x before at number place bytes after o

    -- The place that comes back is always 0.
    pub the_place_is_always_0 : place ≡ 0
    the_place_is_always_0 = Of.place_none x before at number place bytes after o

    -- A refusal writes nothing.
    pub a_refusal_writes_nothing : 0 < number → (bytes ≡ 0) × (after ≡ before)
    a_refusal_writes_nothing = Of.nothing_written x before at number place bytes after o

    -- Whatever comes back, the buffer is as long as it was; its bytes before the place, and those behind what is written, are as they were.
    pub the_bytes_around_it_stay :
        (length after ≡ length before) × ((i : ℕ) → i < at → get_or after i 0 ≡ get_or before i 0) × ((i : ℕ) → at + bytes ≤ i → get_or after i 0 ≡ get_or before i 0)
    the_bytes_around_it_stay = Of.stays x before at number place bytes after o

  -- A buffer with 12,304 bytes behind the place, 16 and 12 times 1,024, has room for every list that can be written: 15 is never given.
  pub room_for_every_list : at + roll_long 1024 ≤ length before → (place bytes : ℕ) (after : List ℕ) → WriteOutcome x before at 15 place bytes after → ⊥
  room_for_every_list h place bytes after = Of.never_fifteen x before at place bytes after h

  -- ---- What is written reads back
  module _ (place bytes : ℕ) (after : List ℕ) (o : WriteOutcome x before at 0 place bytes after) (b : ReadsBack (take (at + bytes) after) x) where
    -- The buffer up to the roll's end.
    abbrev roll : List ℕ
    roll = take (at + bytes) after

    no_floor : floor_of roll ≡ None
    no_floor = (without_floor roll (plain_mark roll b.marked)).1

    -- In the buffer up to the roll's end the reader finds no fault, no floor, and the reference, the count, P, Q and the three lists that went in.
    pub what_is_written_reads_back :
        Accepted (file_rules roll) × (floor_of roll ≡ None) × (reference_of roll ≡ x.terms.reference) × (count_of roll ≡ length x.arrivals) × (p_of roll ≡ x.terms.p) × (q_of roll ≡ x.terms.q)
        × (column_in (records_of roll) (count_of roll) 0 ≡ x.arrivals) × (column_in (records_of roll) (count_of roll) 4 ≡ x.deadlines) × (column_in (records_of roll) (count_of roll) 8 ≡ x.operations)
    what_is_written_reads_back =
        let e = b.list_is in
        (b.accepted, no_floor, ap (λ (y : Listing). y.terms.reference) e, b.count_is, ap (λ (y : Listing). y.terms.p) e, ap (λ (y : Listing). y.terms.q) e, ap (λ (y : Listing). y.arrivals) e, ap (λ (y : Listing). y.deadlines) e, ap (λ (y : Listing). y.operations) e)

    -- `read` shows them: its numbers are these, and the part that it hands back begins at the place.
    pub the_reader_shows_it :
        (n : Numbers) → NumbersIs roll n →
        n ≡ record { refusal = 0; trailer = record { count = length x.arrivals; terms = x.terms }; floor = floor_numbers None; at = at; size = 12 * length x.arrivals }
    the_reader_shows_it = Shown.numbers_shown x before at place bytes after o b

    pub and_hands_back_its_records : (s part : Bor (List ℕ)) → s.now ≡ roll → PartIs s part → PartFrom s at (12 * length x.arrivals) part
    and_hands_back_its_records = Shown.part_shown x before at place bytes after o b

    -- `plan_roll` of it is `plan` of the lists.
    pub planning_the_roll_is_planning_the_list :
        (rows : List ℕ) (number place' blocks : ℕ) (rows' : List ℕ) →
        RollOutcome roll rows number place' blocks rows' ↔ PlanOutcome (handed x rows) number place' blocks rows'
    planning_the_roll_is_planning_the_list rows number place' blocks rows' =
        let list : input_of roll rows ≡ handed x rows = ap (λ (f : Option Pace). input_in (records_of roll) (count_of roll) (terms_of roll) f rows) no_floor ∙ ap (λ (y : Listing). handed y rows) b.list_is in
        let y = input_of roll rows in (
          λ r. subst (λ (z : Input). PlanOutcome z number place' blocks rows') list (Roll.the_answer_for_the_list roll rows number place' blocks rows' r b.accepted),
          λ p. goes_on (reports_of y) (fastest_of y) rows (file_rules roll) (plan_rules y) number place' blocks rows' (record { accepted = b.accepted }) (subst (λ (z : Input). PlanOutcome z number place' blocks rows') (sym list) p),
        )

-- A roll reads back as one list only: no two lists are written alike.
pub no_two_lists_are_written_alike : (s : List ℕ) (x y : Listing) → ReadsBack s x → ReadsBack s y → x ≡ y
no_two_lists_are_written_alike s x y a b = sym a.list_is ∙ b.list_is

-- ---- What was read writes back
-- For every string of bytes that the reader accepts and that is marked AQ, packing what was read gives its bytes again, from the first record on;
pub what_was_read_packs_again_behind_its_preface : (s : List ℕ) → ByteString s → ends_in s mark ≡ true → Accepted (file_rules s) → roll_bytes (shown s) ≡ drop (records_at s) s
what_was_read_packs_again_behind_its_preface s bytes m a = Back.writes_back_behind s bytes m (record { accepted = a })

-- without a preface, all of them.
pub what_was_read_packs_again : (s : List ℕ) → ByteString s → ends_in s mark ≡ true → Accepted (file_rules s) → length s ≡ back_of s → roll_bytes (shown s) ≡ s
what_was_read_packs_again s bytes m a e = Back.writes_back s bytes m (record { accepted = a }) e

-- And where it has at most 1,024 reports, `write` puts exactly these bytes into every buffer, from every place that leaves room for them.
pub what_was_read_writes_back :
    (s : List ℕ) → ByteString s → ends_in s mark ≡ true → Accepted (file_rules s) → length s ≡ back_of s → count_of s ≤ 1024 →
    (before : List ℕ) (at : ℕ) → at + length s ≤ length before →
    (number place bytes : ℕ) (after : List ℕ) → WriteOutcome (shown s) before at number place bytes after →
    (number ≡ 0) × (place ≡ 0) × (bytes ≡ length s) × (after ≡ take at before ++ (s ++ drop (at + length s) before))
what_was_read_writes_back s bytes m a e few before at room number place n after o = Shown.written_again s bytes m (record { accepted = a }) e few before at room number place n after o
