-- Text, or other bytes, put into a buffer.
-- Assumes nothing.
use Rattle.std.specs.Prelude.{ℕ, ◌+◌, ◌≡◌, List, ◌++◌, length, take, drop}

-- Text put into a buffer from a place on: nothing else of the buffer is written, and the place behind the text comes back.
pub record Puts (before : List ℕ) (at : ℕ) (text : List ℕ) (r : ℕ) (after : List ℕ) : Type 0 where
  pub behind : r ≡ at + length text
  pub written : after ≡ take at before ++ (text ++ drop (at + length text) before)
