-- What the reader of a roll gives back.
-- Assumes nothing.
use Rattle.std.specs.Prelude.{ℕ, ◌+◌, ◌≡◌, List, take, drop, Option, None, Some, Result, Ok, Err}
use Rattle.std.specs.Borrow.{Bor}
use Rattle.trials.specs.Rules.{Refused, Accepted, Refuses}
use Rattle.fraction.specs.declared.Pace.{Pace}
use Rattle.roll.specs.Format.{count_of, terms_of, floor_of, file_rules, records_at, records_long}
use Rattle.answers.specs.declared.Refusal.{Refusal}
use Rattle.roll.specs.declared.Trailer.{Trailer}
use Rattle.roll.specs.declared.Ending.{Ending}
use Rattle.roll.specs.declared.FloorNumbers.{FloorNumbers}
use Rattle.roll.specs.declared.Numbers.{Numbers}

-- A trailer's numbers are those of the roll.
pub record TrailerIs (s : List ℕ) (t : Trailer) : Type 0 where
  pub count_is : t.count ≡ count_of s
  pub terms_is : t.terms ≡ terms_of s

-- What a roll's end says is what the roll has: the trailer's numbers, and the floor.
pub record EndingIs (s : List ℕ) (e : Ending) : Type 0 where
  pub trailer_is : TrailerIs s e.trailer
  pub floor_is : e.floor ≡ floor_of s

-- The trailer is there where no file rule is given; else the refusal is that of the first that is.
unfoldable pub TrailerAnswerIs : List ℕ → Result Ending Refusal → Type 0
TrailerAnswerIs s (Ok e) = Accepted (file_rules s) × EndingIs s e
TrailerAnswerIs s (Err refusal) = Refuses (file_rules s) refusal

-- A floor in numbers: 1, R and T; all 0 where it is absent, as it is in an AQ roll.
abbrev pub floor_numbers : Option Pace → FloorNumbers
floor_numbers None = record { given = 0; r = 0; t = 0 }
floor_numbers (Some pace) = record { given = 1; r = pace.ticks; t = pace.operations }

-- What is read of a roll, in numbers: no refusal, the trailer's numbers, the floor's, and where the part with the records lies, and its size.
pub record NumbersRead (s : List ℕ) (n : Numbers) : Type 0 where
  pub refusal_is : n.refusal ≡ 0
  pub trailer_is : TrailerIs s n.trailer
  pub floor_is : n.floor ≡ floor_numbers (floor_of s)
  pub at_is : n.at ≡ records_at s
  pub size_is : n.size ≡ records_long s

-- On a refusal its number, and the others are 0.
abbrev pub numbers_refused : ℕ → Numbers
numbers_refused number = record {
  refusal = number;
  trailer = record { count = 0; terms = record { reference = 0; p = 0; q = 0 } };
  floor = floor_numbers None;
  at = 0;
  size = 0;
}

-- The reader's numbers, for every string of bytes.
pub record NumbersIs (s : List ℕ) (n : Numbers) : Type 0 where
  pub accepted : Accepted (file_rules s) → NumbersRead s n
  pub refused : (number place : ℕ) → Refused (file_rules s) number place → n ≡ numbers_refused number

-- A part of the caller's bytes, no copy: so many of them, lying where they lie there.
pub record PartFrom (s : Bor (List ℕ)) (at size : ℕ) (part : Bor (List ℕ)) : Type 0 where
  pub bytes : part.now ≡ take size (drop at s.now)
  pub lies : part.ref_ptr ≡ (s.ref_ptr.0, at + s.ref_ptr.1)

-- The part with the records; no bytes on a refusal.
pub record PartIs (s part : Bor (List ℕ)) : Type 0 where
  pub accepted : Accepted (file_rules s.now) → PartFrom s (records_at s.now) (records_long s.now) part
  pub refused : (number place : ℕ) → Refused (file_rules s.now) number place → PartFrom s 0 0 part
