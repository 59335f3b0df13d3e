-- The roll (01, "The roll"): records of 12 bytes, then a trailer of 16 that points back; of 20 where the mark says that it begins with a floor (02, W2). A free preface stands before the records and is never looked at.
-- A roll is a list of bytes s; its trailer is read from the end.
-- Assumes nothing.
use Rattle.std.specs.Prelude.{ℕ, ◌+◌, ◌*◌, ◌-◌, ◌<◌, ◌≡◌, Bool, true, ◌&&◌, cond, List, [], ◌∷◌, ◌++◌, ◌⊎◌, eqb, length, get_or, take, drop, Option, None, Some}
use Rattle.lists.specs.Listed.{listed}
use Rattle.trials.specs.Rules.{Rule, rule, Overall}
use Rattle.rules.specs.Offsets.{Input, reports_of, fastest_of}
use Rattle.rules.specs.Rules.{plan_rules}
use Rattle.rules.specs.declared.Roll.{Roll}
use Rattle.fraction.specs.declared.Pace.{Pace}
use Rattle.planner.specs.Outcome.{Outcome}

-- All numbers are little-endian: two bytes, and four.
abbrev pub u16_at : List ℕ → ℕ → ℕ
u16_at s at = get_or s at 0 + 256 * get_or s (at + 1) 0

abbrev pub u32_at : List ℕ → ℕ → ℕ
u32_at s at = u16_at s at + 65536 * u16_at s (at + 2)

-- The last 16 bytes: back distance (4), reference (4), record count (2), P (2), Q (2), mark (2).
abbrev pub back_of : List ℕ → ℕ
back_of s = u32_at s (length s - 16)

abbrev pub reference_of : List ℕ → ℕ
reference_of s = u32_at s (length s - 12)

abbrev pub count_of : List ℕ → ℕ
count_of s = u16_at s (length s - 8)

abbrev pub p_of : List ℕ → ℕ
p_of s = u16_at s (length s - 6)

abbrev pub q_of : List ℕ → ℕ
q_of s = u16_at s (length s - 4)

-- Before them, in a roll with a floor: R (2), T (2).
abbrev pub r_of : List ℕ → ℕ
r_of s = u16_at s (length s - 20)

abbrev pub t_of : List ℕ → ℕ
t_of s = u16_at s (length s - 18)

-- The mark is the two bytes 41 51 in hexadecimal, "AQ"; of a roll with a floor 41 46, "AF".
abbrev pub mark : List ℕ
mark = 0x41 ∷ 0x51 ∷ []

abbrev pub floor_mark : List ℕ
floor_mark = 0x41 ∷ 0x46 ∷ []

-- Whether a mark stands at the roll's end.
unfoldable pub ends_in : List ℕ → List ℕ → Bool
ends_in s m = eqb (get_or s (length s - 2) 0) (get_or m 0 0) && eqb (get_or s (length s - 1) 0) (get_or m 1 0)

-- Whether the roll has a floor: the mark decides.
abbrev pub has_floor : List ℕ → Bool
has_floor s = ends_in s floor_mark

-- So it decides how long the trailer is,
unfoldable pub trailer_long : List ℕ → ℕ
trailer_long s = cond (has_floor s) 20 16

-- and what floor it gives.
unfoldable pub floor_of : List ℕ → Option Pace
floor_of s = cond (has_floor s) (Some (record { ticks = r_of s; operations = t_of s })) None

-- One of the marks stands at the roll's end.
pub record Marked (s : List ℕ) : Type 0 where
  pub is : (ends_in s mark ≡ true) ⊎ (has_floor s ≡ true)

-- 10: shorter than its trailer, 16 bytes or 20.
abbrev pub short_rule : List ℕ → Rule
short_rule s = rule 10 (Overall (length s < trailer_long s))

-- 11: mark wrong.
abbrev pub mark_rule : List ℕ → Rule
mark_rule s = rule 11 (Overall (Marked s → ⊥))

-- 12: back distance is not 16 + 12 times the count; with a floor, 20 + 12 times the count.
abbrev pub back_rule : List ℕ → Rule
back_rule s = rule 12 (Overall (back_of s ≡ trailer_long s + 12 * count_of s → ⊥))

-- 13: back distance exceeds the roll's length.
abbrev pub far_rule : List ℕ → Rule
far_rule s = rule 13 (Overall (length s < back_of s))

-- The rules of a trailer, and all the file rules, in their order.
abbrev pub trailer_rules : List ℕ → List Rule
trailer_rules s = mark_rule s ∷ back_rule s ∷ far_rule s ∷ []

abbrev pub file_rules : List ℕ → List Rule
file_rules s = short_rule s ∷ trailer_rules s

-- Where the records begin: the back distance before the end.
abbrev pub records_at : List ℕ → ℕ
records_at s = length s - back_of s

-- How many bytes they are.
abbrev pub records_long : List ℕ → ℕ
records_long s = 12 * count_of s

-- The part of the bytes that holds the records.
abbrev pub records_of : List ℕ → List ℕ
records_of s = take (records_long s) (drop (records_at s) s)

-- One number of each record of a part: at 0 the arrival reading, at 4 the deadline reading, at 8 the operations.
abbrev pub column_in : List ℕ → ℕ → ℕ → List ℕ
column_in part count at = listed count (λ i. u32_at part (12 * i + at))

-- What the planner is handed: the records of a part, a trailer's terms, its floor, and a row buffer.
abbrev pub input_in : List ℕ → ℕ → Roll → Option Pace → List ℕ → Input
input_in part count terms floor buffer = record {
  arrivals = column_in part count 0;
  deadlines = column_in part count 4;
  operations = column_in part count 8;
  terms = terms;
  floor = floor;
  buffer = buffer;
}

-- The terms in a trailer: reference, P and Q.
abbrev pub terms_of : List ℕ → Roll
terms_of s = record { reference = reference_of s; p = p_of s; q = q_of s }

-- The list in a roll.
abbrev pub input_of : List ℕ → List ℕ → Input
input_of s buffer = input_in (records_of s) (count_of s) (terms_of s) (floor_of s) buffer

-- All the rules, of a roll and the list in it, file rules first.
abbrev pub roll_rules : List ℕ → Input → List Rule
roll_rules s x = file_rules s ++ plan_rules x

-- The outcome of a roll, by all the rules.
abbrev pub RollOutcome : List ℕ → List ℕ → ℕ → ℕ → ℕ → List ℕ → Type 0
RollOutcome s buffer number place blocks after =
    let x = input_of s buffer in Outcome (roll_rules s x) (reports_of x) (fastest_of x) buffer number place blocks after
