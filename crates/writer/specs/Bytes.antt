-- The bytes of a roll, as they are written (01, "The roll"): records, then the trailer, whose last two bytes are the mark; and what it is for a roll to read back. Mark, trailer and what is read are the reader's words, roll/specs/Format.antt.
-- Assumes nothing.
use Rattle.std.specs.Prelude.{ℕ, zero, suc, ◌+◌, ◌*◌, ◌/◌, ◌%◌, ◌<◌, ◌≡◌, true, List, [], ◌∷◌, ◌++◌, length, get_or, None}
use Rattle.trials.specs.Rules.{Accepted}
use Rattle.rules.specs.Offsets.{Input}
use Rattle.rules.specs.declared.Roll.{Roll}
use Rattle.rules.specs.declared.ReportList.{ReportList}
use Rattle.roll.specs.Format.{mark, ends_in, count_of, file_rules, input_of}
use Rattle.roll.specs.declared.Trailer.{Trailer}

-- What a roll carries: the three lists, and the terms that they come with (reference, P and Q).
pub record Listing : Type 0 where
  pub arrivals : List ℕ
  pub deadlines : List ℕ
  pub operations : List ℕ
  pub terms : Roll

-- That of a list of reports that is lent.
abbrev pub listing : ReportList → Listing
listing list = record { arrivals = list.arrivals.now; deadlines = list.deadlines.now; operations = list.operations.now; terms = list.terms }

-- All numbers are little-endian: two bytes, and four.
abbrev pub le16 : ℕ → List ℕ
le16 n = n % 256 ∷ n / 256 % 256 ∷ []

abbrev pub le32 : ℕ → List ℕ
le32 n = le16 (n % 65536) ++ le16 (n / 65536)

-- A record, 12 bytes: arrival reading, deadline reading, operations.
abbrev pub record_bytes : ℕ → ℕ → ℕ → List ℕ
record_bytes arrival deadline operations = le32 arrival ++ le32 deadline ++ le32 operations

-- The first n records of three lists.
unfoldable pub records_up_to : List ℕ → List ℕ → List ℕ → ℕ → List ℕ
records_up_to arrivals deadlines operations zero = []
records_up_to arrivals deadlines operations (suc n) =
    records_up_to arrivals deadlines operations n ++ record_bytes (get_or arrivals n 0) (get_or deadlines n 0) (get_or operations n 0)

-- The records of a list: one for each report.
abbrev pub records_bytes : Listing → List ℕ
records_bytes x = records_up_to x.arrivals x.deadlines x.operations (length x.arrivals)

-- How long a roll without preface is: 16 bytes, and 12 for each report.
abbrev pub roll_long : ℕ → ℕ
roll_long reports = 16 + 12 * reports

-- The trailer, 16 bytes: back distance, reference, record count, P, Q, mark.
abbrev pub trailer_bytes : Trailer → List ℕ
trailer_bytes t = le32 (roll_long t.count) ++ le32 t.terms.reference ++ le16 t.count ++ le16 t.terms.p ++ le16 t.terms.q ++ mark

-- The trailer of a list.
abbrev pub trailer_for : Listing → Trailer
trailer_for x = record { count = length x.arrivals; terms = x.terms }

-- A roll: the records, then the trailer.
abbrev pub roll_bytes : Listing → List ℕ
roll_bytes x = records_bytes x ++ trailer_bytes (trailer_for x)

-- ---- what is read
-- What a roll shows to the reader: the list in it, with no row buffer.
abbrev pub shown : List ℕ → Listing
shown s = let x : Input = input_of s [] in record { arrivals = x.arrivals; deadlines = x.deadlines; operations = x.operations; terms = x.terms }

-- A roll reads back as a list: no file rule is given; its mark is AQ, so it has no floor; and the count, the three lists, the reference, P and Q that it shows are those of the list.
pub record ReadsBack (s : List ℕ) (x : Listing) : Type 0 where
  pub accepted : Accepted (file_rules s)
  pub marked : ends_in s mark ≡ true
  pub count_is : count_of s ≡ length x.arrivals
  pub list_is : shown s ≡ x

-- What the planner is handed with a list: no floor, and a row buffer.
abbrev pub handed : Listing → List ℕ → Input
handed x rows = record { arrivals = x.arrivals; deadlines = x.deadlines; operations = x.operations; terms = x.terms; floor = None; buffer = rows }

-- A string of bytes.
pub record ByteString (s : List ℕ) : Type 0 where
  pub each : (i : ℕ) → i < length s → get_or s i 0 < 256
