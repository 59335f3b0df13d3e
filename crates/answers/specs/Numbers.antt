-- What each answer is in 01's numbers (01, "The refusals and their order"), and how many numbers a row has.
-- Assumes nothing.
use Rattle.std.specs.Prelude.{ℕ, ◌<◌, List, [], ◌∷◌, ◌≡◌, Result, Ok, Err}
use Rattle.answers.specs.declared.Reply.{Reply}
use Rattle.answers.specs.declared.Row.{Row}
use Rattle.answers.specs.declared.Refusal.{Refusal}
use Rattle.answers.specs.declared.Fault.{Fault}
use Rattle.answers.specs.declared.Fault.TheVariants.{Lengths, TooMany, ShortBuffer, BadPace, BadOperations, BadArrival, BadDeadline, ArrivalFalls, NoPlan, ShortRoll, BadMark, BadBack, TooFar, TooLong, NoRoom, BadFloor, FloorBelow}

-- The number of what a refusal is given for.
abbrev pub number : Fault → ℕ
number Lengths = 1
number TooMany = 2
number ShortBuffer = 3
number BadPace = 4
number BadOperations = 5
number BadArrival = 6
number BadDeadline = 7
number ArrivalFalls = 8
number NoPlan = 9
number ShortRoll = 10
number BadMark = 11
number BadBack = 12
number TooFar = 13
number TooLong = 14
number NoRoom = 15
number BadFloor = 16
number FloorBelow = 17

-- An answer: the block count, or the refusal.
abbrev pub Answer : Type 0
Answer = Result ℕ Refusal

-- The number of an answer: 0, or the refusal's.
abbrev pub number_of : Answer → ℕ
number_of (Ok blocks) = 0
number_of (Err refusal) = number refusal.fault

-- Its place: 0, or the report that the refusal concerns.
abbrev pub place_of : Answer → ℕ
place_of (Ok blocks) = 0
place_of (Err refusal) = refusal.place

-- Its block count: 0 on a refusal.
abbrev pub blocks_of : Answer → ℕ
blocks_of (Ok blocks) = blocks
blocks_of (Err refusal) = 0

-- A refusal has a number above 0. So no refusal is taken for a plan, and an answer is told by its three numbers.
abbrev pub Proper : Answer → Type 0
Proper (Ok blocks) = Unit {0}
Proper (Err refusal) = 0 < number refusal.fault

-- A reply is an answer in 01's numbers.
pub record InNumbers (answer : Answer) (reply : Reply) : Type 0 where
  pub number_is : reply.number ≡ number_of answer
  pub place_is : reply.place ≡ place_of answer
  pub blocks_is : reply.blocks ≡ blocks_of answer

-- The reply of a refusal with any number and place: its block count is 0.
abbrev pub refused : ℕ → ℕ → Reply
refused number place = record { number = number; place = place; blocks = 0 }

-- A row has five numbers.
abbrev pub width : ℕ
width = 5

-- They are, in the order in which they stand in a buffer: first report, last report, start offset, end offset, operations.
abbrev pub numbers_of : Row → List ℕ
numbers_of row = row.first ∷ row.last ∷ row.start ∷ row.end ∷ row.operations ∷ []
