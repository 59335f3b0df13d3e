-- Numbers and lines as text (01, "The roll": all in decimal, single spaces, each line ended by one line feed).
-- Text is a list of ASCII codes.
-- Assumes nothing.
use Rattle.std.specs.Prelude.{ℕ, zero, suc, ◌+◌, ◌*◌, ◌/◌, ◌≤◌, ◌≡◌, cond, List, [], ◌∷◌, ◌++◌, ltb, length, take, drop}
use Rattle.lists.specs.Puts.{Puts}
use Rattle.io.specs.Digits.{last_digits}
use Rattle.answers.specs.Numbers.{width}

-- How many decimal digits a number has, among the first most + 1.
unfoldable pub places_up_to : ℕ → ℕ → ℕ
places_up_to zero n = 1
places_up_to (suc most) n = cond (ltb n 10) 1 (suc (places_up_to most (n / 10)))

-- A number in decimal, with no 0 in front.
abbrev pub decimal : ℕ → List ℕ
decimal n = last_digits 10 (places_up_to n n) n

-- A line: numbers in decimal with single spaces between them, ended by one line feed.
unfoldable pub line : List ℕ → List ℕ
line [] = 10 ∷ []
line (n ∷ []) = decimal n ++ (10 ∷ [])
line (n ∷ m ∷ ns) = decimal n ++ (32 ∷ line (m ∷ ns))

-- A block's line: the numbers of row k of a buffer.
abbrev pub row_line : List ℕ → ℕ → List ℕ
row_line rows k = line (take width (drop (width * k) rows))

-- One line a block, for the first so many blocks.
unfoldable pub row_lines : List ℕ → ℕ → List ℕ
row_lines rows zero = []
row_lines rows (suc k) = row_lines rows k ++ row_line rows k

-- The first line: the word plan, then number, place and block count.
abbrev pub first_line : ℕ → ℕ → ℕ → List ℕ
first_line number place blocks = 112 ∷ 108 ∷ 97 ∷ 110 ∷ 32 ∷ line (number ∷ place ∷ blocks ∷ [])

-- The text of an answer and its rows, whole.
abbrev pub plan_text : ℕ → ℕ → ℕ → List ℕ → List ℕ
plan_text number place blocks rows = first_line number place blocks ++ row_lines rows blocks

-- Room for a line of n numbers: each has at most 20 digits, and a space or a line feed behind it.
abbrev pub line_room : ℕ → ℕ
line_room n = 21 * n

-- Room for the text of a plan: its word, three numbers, and one line a block.
abbrev pub text_room : ℕ → ℕ
text_room blocks = 5 + line_room 3 + line_room width * blocks

-- What a plan's text needs: at most 1,024 blocks, their rows, and a buffer with room for the longest numbers.
pub record Room (blocks : ℕ) (rows out : List ℕ) : Type 0 where
  pub few : blocks ≤ 1024
  pub rows_long : width * blocks ≤ length rows
  pub out_long : text_room blocks ≤ length out

-- With room, the text stands at the front of the buffer, the bytes behind it stay as they were, and its length comes back; without, 0 comes back and nothing is written.
pub record TextIs (number place blocks : ℕ) (rows before : List ℕ) (r : ℕ) (after : List ℕ) : Type 0 where
  pub put : Room blocks rows before → Puts before 0 (plan_text number place blocks rows) r after
  pub no_room : (Room blocks rows before → ⊥) → (r ≡ 0) × (after ≡ before)
