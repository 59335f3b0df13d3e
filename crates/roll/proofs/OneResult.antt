-- The promises of the roll's reader and of `plan_roll` allow one result for each string of bytes, and for `plan_roll` there is one: the file rules decide each.
-- Assumes nothing.
use Prim.Native.Nat.{ℕ}
use mathlib.Core.Path.{◌≡◌, refl, sym, ◌∙◌, ap, ap₂}
use mathlib.Core.List.{List}
use mathlib.Core.Logic.{◌⊎◌, ⊎_elim}
use native.Mathlib.Omega.{arith}
use denote.Ref.{Bor}
use Rattle.std.specs.Prelude.{Option, None, Some, Result, Ok, Err}
use Rattle.answers.specs.declared.Refusal.{Refusal}
use Rattle.trials.specs.Rules.{Accepted, Refused}
use Rattle.trials.proofs.Passing.{Passed, last_part}
use Rattle.trials.proofs.Single.{Soles, singly, not_refused, one_refuses}
use Rattle.trials.proofs.Deciding.{Decides, Gives, deciding, passed_or_given}
use Rattle.rules.specs.Offsets.{Input, reports_of, fastest_of}
use Rattle.rules.specs.Rules.{plan_rules}
use Rattle.rules.specs.declared.Roll.{Roll}
use Rattle.fraction.specs.declared.Pace.{Pace}
use Rattle.answers.specs.Numbers.{Answer, number, number_of, place_of, blocks_of}
use Rattle.answers.proofs.Replies.{always_proper, same_answer}
use Rattle.planner.proofs.OneResult.{one_outcome}
use Rattle.planner.proofs.SomeResult.{some_result}
use Rattle.planner.proofs.Outcomes.{refused_outcome, goes_on}
use Rattle.rules.proofs.Table.{one_plan_rule, works}
use Rattle.roll.specs.Format.{file_rules, input_of, roll_rules, RollOutcome}
use Rattle.roll.specs.Answers.{floor_numbers, TrailerAnswerIs, TrailerIs, EndingIs, NumbersRead, NumbersIs, PartFrom, PartIs}
use Rattle.roll.specs.declared.Trailer.{Trailer}
use Rattle.roll.specs.declared.Ending.{Ending}
use Rattle.roll.specs.declared.FloorNumbers.{FloorNumbers}
use Rattle.roll.specs.declared.Numbers.{Numbers}
use Rattle.roll.specs.declared.Reading.{Reading}
use Rattle.roll.proofs.Marking.{dec_marked}

-- ---- each rule is given with one place only
pub single_file : (s : List ℕ) → Soles (file_rules s)
single_file s = search singly depth 40

pub single_roll : (s : List ℕ) (x : Input) → Soles (roll_rules s x)
single_roll s x = search (singly, one_plan_rule) depth 40

-- ---- plan_roll
-- The promise of `plan_roll` allows one number, place, block count and buffer for each roll,
pub one_roll :
    (s buffer : List ℕ) (number place blocks number' place' blocks' : ℕ) (after after' : List ℕ) →
    RollOutcome s buffer number place blocks after → RollOutcome s buffer number' place' blocks' after' →
    (number ≡ number') × (place ≡ place') × (blocks ≡ blocks') × (after ≡ after')
one_roll s buffer =
    let x = input_of s buffer in
    one_outcome (roll_rules s x) (reports_of x) (fastest_of x) buffer (single_roll s x) (λ p. works x (last_part (file_rules s) (plan_rules x) p))

-- and one answer, whatever its numbers are called: the Result itself.
pub one_roll_answer :
    (s buffer : List ℕ) (a b : Answer) (after after' : List ℕ) →
    RollOutcome s buffer (number_of a) (place_of a) (blocks_of a) after → RollOutcome s buffer (number_of b) (place_of b) (blocks_of b) after' → (a ≡ b) × (after ≡ after')
one_roll_answer s buffer a b after after' v w =
    let e = one_roll s buffer (number_of a) (place_of a) (blocks_of a) (number_of b) (place_of b) (blocks_of b) after after' v w in
    (same_answer a b (always_proper a) (always_proper b) e.0 e.1 e.2, e.3)

-- ---- read_trailer
trailer : ℕ → Roll → Trailer
trailer count terms = record { count = count; terms = terms }

one_trailer : (s : List ℕ) (t u : Trailer) → TrailerIs s t → TrailerIs s u → t ≡ u
unfolding trailer
one_trailer s t u v w =
    ap (λ (z : ℕ). trailer z t.terms) (v.count_is ∙ sym w.count_is) ∙ ap (trailer u.count) (v.terms_is ∙ sym w.terms_is)

ending : Trailer → Option Pace → Ending
ending trailer floor = record { trailer = trailer; floor = floor }

one_ending : (s : List ℕ) (e f : Ending) → EndingIs s e → EndingIs s f → e ≡ f
unfolding ending
one_ending s e f v w =
    ap (λ (t : Trailer). ending t e.floor) (one_trailer s e.trailer f.trailer v.trailer_is w.trailer_is) ∙ ap (ending f.trailer) (v.floor_is ∙ sym w.floor_is)

-- The promise of `read_trailer` allows one answer for each string of bytes.
pub one_trailer_answer : (s : List ℕ) (r r' : Result Ending Refusal) → TrailerAnswerIs s r → TrailerAnswerIs s r' → r ≡ r'
unfolding TrailerAnswerIs
one_trailer_answer s (Ok e) (Ok f) v w = ap Ok (one_ending s e f v.1 w.1)
one_trailer_answer s (Ok e) (Err b) v w = absurd (not_refused (file_rules s) v.0 (number b.fault) b.place w.refused)
one_trailer_answer s (Err a) (Ok f) v w = absurd (not_refused (file_rules s) w.0 (number a.fault) a.place v.refused)
one_trailer_answer s (Err a) (Err b) v w = ap Err (one_refuses (single_file s) v w)

-- ---- every string of bytes is accepted or refused by the file rules
pub decides_file : (s : List ℕ) → Decides (file_rules s)
decides_file s = search (deciding, dec_marked) depth 40

pub file_decided : (s : List ℕ) → Passed (file_rules s) ⊎ Gives (file_rules s)
file_decided s = passed_or_given (decides_file s)

-- And there is a result for each roll.
pub some_roll : (s buffer : List ℕ) → (number : ℕ) × (place : ℕ) × (blocks : ℕ) × (after : List ℕ) × RollOutcome s buffer number place blocks after
some_roll s buffer =
    let x = input_of s buffer in
    ⊎_elim
    (λ (p : Passed (file_rules s)). let o = some_result x in (o.0, o.1, o.2, o.3, goes_on (reports_of x) (fastest_of x) buffer (file_rules s) (plan_rules x) o.0 o.1 o.2 o.3 p o.4))
    (λ (g : Gives (file_rules s)). (
      g.number,
      g.place,
      0,
      buffer,
      refused_outcome (reports_of x) (fastest_of x) buffer (file_rules s) (plan_rules x) g.number g.place 0 buffer (record { numbered = g.numbered; refused = g.refused; no_blocks = refl; untouched = refl }),
    ))
    (file_decided s)

-- ---- records
-- what a promise by the file rules says of two results holds, whichever way they go
by_file : (s : List ℕ) (F : Type 0) → (Accepted (file_rules s) → F) → ((number place : ℕ) → Refused (file_rules s) number place → F) → F
by_file s F f g = ⊎_elim (λ p. f p.accepted) (λ h. g h.number h.place h.refused) (file_decided s)

-- A slice is its bytes and where they lie.
abbrev pub SameSlice : Bor (List ℕ) → Bor (List ℕ) → Type 0
SameSlice a b = (a.now ≡ b.now) × (a.ref_ptr ≡ b.ref_ptr)

one_part_from : {s a b : Bor (List ℕ)} {at size : ℕ} → PartFrom s at size a → PartFrom s at size b → SameSlice a b
one_part_from v w = (v.bytes ∙ sym w.bytes, v.lies ∙ sym w.lies)

-- The promise of `records` allows one part for each string of bytes, where it lies.
pub one_part : (s a b : Bor (List ℕ)) → PartIs s a → PartIs s b → SameSlice a b
one_part s a b v w = by_file s.now (SameSlice a b) (λ q. one_part_from (v.accepted q) (w.accepted q)) (λ number place q. one_part_from (v.refused number place q) (w.refused number place q))

-- ---- a floor in numbers
-- The numbers of a floor tell which it is: an AF roll with R and T 0 is told from an AQ roll, which has none.
pub floor_told : (a b : Option Pace) → floor_numbers a ≡ floor_numbers b → a ≡ b
floor_told None None e = refl
floor_told None (Some x) e = absurd (omega (arith, ap (λ (n : FloorNumbers). n.given) e))
floor_told (Some x) None e = absurd (omega (arith, ap (λ (n : FloorNumbers). n.given) e))
floor_told (Some x) (Some y) e = ap₂ (λ (ticks operations : ℕ). Some (record { ticks = ticks; operations = operations })) (ap (λ (n : FloorNumbers). n.r) e) (ap (λ (n : FloorNumbers). n.t) e)

-- ---- read_numbers, and read
numbers : ℕ → Trailer → FloorNumbers → ℕ → ℕ → Numbers
numbers k t f at size = record { refusal = k; trailer = t; floor = f; at = at; size = size }

one_numbers_read : (s : List ℕ) (m n : Numbers) → NumbersRead s m → NumbersRead s n → m ≡ n
unfolding numbers
one_numbers_read s m n v w =
    ap (λ (k : ℕ). numbers k m.trailer m.floor m.at m.size) (v.refusal_is ∙ sym w.refusal_is)
    ∙ ap (λ (t : Trailer). numbers n.refusal t m.floor m.at m.size) (one_trailer s m.trailer n.trailer v.trailer_is w.trailer_is)
    ∙ ap (λ (f : FloorNumbers). numbers n.refusal n.trailer f m.at m.size) (v.floor_is ∙ sym w.floor_is)
    ∙ ap (λ (k : ℕ). numbers n.refusal n.trailer n.floor k m.size) (v.at_is ∙ sym w.at_is)
    ∙ ap (numbers n.refusal n.trailer n.floor n.at) (v.size_is ∙ sym w.size_is)

-- The promise of `read_numbers` allows one answer for each string of bytes.
pub one_numbers : (s : List ℕ) (m n : Numbers) → NumbersIs s m → NumbersIs s n → m ≡ n
one_numbers s m n v w =
    by_file s (m ≡ n) (λ q. one_numbers_read s m n (v.accepted q) (w.accepted q)) (λ number place q. v.refused number place q ∙ sym (w.refused number place q))

-- The promise of `read` allows one reading: the same numbers, and the same part where it lies.
pub one_reading : (s : Bor (List ℕ)) (a b : Reading) → NumbersIs s.now a.numbers × PartIs s a.part → NumbersIs s.now b.numbers × PartIs s b.part → (a.numbers ≡ b.numbers) × SameSlice a.part b.part
one_reading s a b v w = (one_numbers s.now a.numbers b.numbers v.0 w.0, one_part s a.part b.part v.1 w.1)
