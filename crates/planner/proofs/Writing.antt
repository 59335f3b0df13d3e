-- A row written into a buffer: it stands there, and nothing else has changed.
-- Assumes nothing.
use Rattle.std.proofs.Common.{◌≡◌, ℕ, ◌+◌, ◌*◌, ◌<◌, ◌≤◌, List, length, get_or, sym, arith}
use lib.Seq.{length-paste}
use Rattle.answers.specs.Numbers.{width, numbers_of}
use Rattle.answers.specs.declared.Row.{Row as Numbers}
use Rattle.critical.specs.Rows.{Row}
use Rattle.critical.proofs.Unique.{row_≡}
use Rattle.planner.specs.Outcome.{row_at}
use Rattle.planner.specs.Inside.{put_row}
use Rattle.lists.proofs.Copying.{paste_before, paste_within, paste_behind}

-- the row that a row's numbers are of
abbrev pub block_of : Numbers → Row
block_of r = record { first = r.first; last = r.last; start = r.start; end = r.end; operations = r.operations }

module _ (b : List ℕ) (k : ℕ) (r : Numbers) (room : width * k + width ≤ length b) where
  abbrev after : List ℕ
  after = put_row b k (numbers_of r)

  pub length-put : length after ≡ length b
  length-put = length-paste b (width * k) (numbers_of r) width room (omega arith)

  pub put_behind : (i : ℕ) → width * k + width ≤ i → get_or after i 0 ≡ get_or b i 0
  put_behind = paste_behind b (width * k) (numbers_of r) width room (omega arith)

  put_before : (i : ℕ) → i < width * k → get_or after i 0 ≡ get_or b i 0
  put_before = paste_before b (width * k) (numbers_of r) width room (omega arith)

  here : (j : ℕ) → j < width → get_or after (width * k + j) 0 ≡ get_or (numbers_of r) j 0
  here = paste_within b (width * k) (numbers_of r) width room (omega arith)

  pub row_other : (j : ℕ) → j < k → row_at b j ≡ row_at after j
  row_other j h =
      let other : (i : ℕ) → i < width → get_or after (width * j + i) 0 ≡ get_or b (width * j + i) 0 = λ i l. put_before (width * j + i) (omega arith) in
      sym (row_≡ (row_at after j) (row_at b j) (other 0 (omega arith)) (other 1 (omega arith)) (other 2 (omega arith)) (other 3 (omega arith)) (other 4 (omega arith)))

  pub row_put : row_at after k ≡ block_of r
  row_put = row_≡ (row_at after k) (block_of r) (here 0 (omega arith)) (here 1 (omega arith)) (here 2 (omega arith)) (here 3 (omega arith)) (here 4 (omega arith))
