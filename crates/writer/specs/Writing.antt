-- What the writer of a roll gives (02, W1): its refusals and their order, and what the buffer then holds.
-- Assumes nothing.
use Rattle.std.specs.Prelude.{ℕ, zero, suc, ◌+◌, ◌≤◌, ◌<◌, ◌≡◌, List, [], ◌∷◌, ◌⊎◌, length, Result}
use Rattle.answers.specs.Numbers.{number_of, place_of, blocks_of}
use Rattle.answers.specs.declared.Refusal.{Refusal}
use Rattle.lists.specs.Puts.{Puts}
use Rattle.trials.specs.Rules.{Rule, rule, Overall, Refused, Accepted}
use Rattle.rules.specs.Rules.{lengths_rule, many_rule}
use Rattle.rules.specs.declared.Roll.{Roll}
use Rattle.writer.specs.Bytes.{Listing, roll_long, roll_bytes}
use Rattle.writer.specs.declared.WriteReply.{WriteReply}

-- 4, of a roll that is written: P or Q above 65,535. A P or Q of 0 is written.
abbrev pub wide_rule : Roll → Rule
wide_rule terms = rule 4 (Overall ((65535 < terms.p) ⊎ (65535 < terms.q)))

-- 15: the buffer behind the place, or the place itself, leaves too little room for the roll.
abbrev pub room_rule : ℕ → ℕ → ℕ → Rule
room_rule reports at room = rule 15 (Overall (room < at + roll_long reports))

-- The writer's rules in their order, of how long the lists are, the terms, the place, and how long the buffer is. Plan rules are not tried.
abbrev pub write_rules : ℕ → ℕ → ℕ → Roll → ℕ → ℕ → List Rule
write_rules arrivals deadlines operations terms at room =
    lengths_rule arrivals deadlines operations
    ∷ many_rule arrivals
    ∷ wide_rule terms
    ∷ room_rule arrivals at room
    ∷ []

-- Of a list, a buffer and a place in it.
abbrev pub rules_for : Listing → List ℕ → ℕ → List Rule
rules_for x before at = write_rules (length x.arrivals) (length x.deadlines) (length x.operations) x.terms at (length before)

-- What comes back, and what the buffer then holds: number 0 and place 0, and so many bytes, the roll, stand in the buffer from the place on, the bytes before and behind them as they were; or a refusal, with 0 bytes written and the buffer untouched.
unfoldable pub WriteOutcome : Listing → List ℕ → ℕ → ℕ → ℕ → ℕ → List ℕ → Type 0
WriteOutcome x before at zero place bytes after = Accepted (rules_for x before at) × (place ≡ 0) × Puts before at (roll_bytes x) (at + bytes) after
WriteOutcome x before at (suc number) place bytes after = Refused (rules_for x before at) (suc number) place × (bytes ≡ 0) × (after ≡ before)

-- What the writer answers: how many bytes it wrote, or the refusal.
abbrev pub Wrote : Type 0
Wrote = Result ℕ Refusal

-- How many bytes an answer says were written: 0 on a refusal.
abbrev pub bytes_of : Wrote → ℕ
bytes_of answer = blocks_of answer

-- A reply is an answer of the writer in 01's numbers.
pub record InBytes (answer : Wrote) (reply : WriteReply) : Type 0 where
  pub number_is : reply.number ≡ number_of answer
  pub place_is : reply.place ≡ place_of answer
  pub bytes_is : reply.bytes ≡ bytes_of answer

-- ---- words in which the theorems are stated
-- A list that can be written into a buffer from a place on: three lists of one length, at most 1,024 reports, P and Q of at most 65,535, and room behind the place.
pub record Writable (x : Listing) (before : List ℕ) (at : ℕ) : Type 0 where
  pub as_many_deadlines : length x.deadlines ≡ length x.arrivals
  pub as_many_operations : length x.operations ≡ length x.arrivals
  pub few : length x.arrivals ≤ 1024
  pub p_most : x.terms.p ≤ 65535
  pub q_most : x.terms.q ≤ 65535
  pub room : at + roll_long (length x.arrivals) ≤ length before
