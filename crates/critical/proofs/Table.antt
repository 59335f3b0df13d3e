-- The starred rows of 01's table ("Lists on both sides of a line"), as one table under one statement; and wrong answers, as another. A test is computed over
-- each whole table; one law turns it into the definitions. P/Q is 1/1.
-- Assumes nothing.
use Prim.Native.Nat.{ℕ, zero-le, suc-le-suc}
use mathlib.Core.Bool.{Bool, true, not, ◌&&◌}
use mathlib.Core.List.{List, [], ◌∷◌}
use lib.Dec.{T}
use lib.ListN.{length, get_or}
use Rattle.fraction.specs.Fraction.{Fraction, whole, over, plus, times, later}
use Rattle.critical.specs.Reports.{Reports, list_of, Positive, start, finish, FirstWithout, steady}
use Rattle.critical.specs.Rows.{Row, holder, behind, sum, Critical}
use Rattle.critical.proofs.Room.{stops_first, first_timely, first_stops}
use Rattle.critical.proofs.Tests.{Test, test_as, test_and, test_not, test_lt, test_≼, test_≺, test_below, test_critical, and_left, and_right}

-- what a list gets: blocks, or the refusal 9 with its place
pub data Result : Type 0 where
  blocks : List Row → Result
  nine : ℕ → Result

-- a row of the table: arrivals, deadlines, operations, result
pub record Entry : Type 0 where
  pub arrivals : List ℕ
  pub deadlines : List ℕ
  pub operations : List ℕ
  pub result : Result

-- a block, as the table writes it
abbrev pub block : ℕ → ℕ → ℕ → ℕ → ℕ → Row
block first last start end operations = record { first = first; last = last; start = start; end = end; operations = operations }

-- the fastest pace of the table
abbrev pub P/Q : Fraction
P/Q = whole 1

one : Positive P/Q
unfolding whole
one = suc-le-suc zero-le

-- the result is right for a list: the rows are `Critical`, or the place is that of the first report without a plan
unfoldable pub Right : Reports → Result → Type 0
Right ℓ (blocks rows) = Critical ℓ P/Q (length rows) (λ k. get_or rows k (block 0 0 0 0 0))
Right ℓ (nine place) = FirstWithout ℓ P/Q place

-- of a table: every entry is right, and none is
unfoldable pub AllRight : List Entry → Type 0
AllRight [] = Unit {0}
AllRight (e ∷ es) = Right (list_of e.arrivals e.deadlines e.operations) e.result × AllRight es

unfoldable pub NoneRight : List Entry → Type 0
NoneRight [] = Unit {0}
NoneRight (e ∷ es) = (Right (list_of e.arrivals e.deadlines e.operations) e.result → ⊥) × NoneRight es

abbrev entry : List ℕ → List ℕ → List ℕ → Result → Entry
entry a d w r = record { arrivals = a; deadlines = d; operations = w; result = r }

unfoldable pub starred : List Entry
starred =
    entry [] [] [] (blocks [])
    ∷ entry (0 ∷ []) (10 ∷ []) (4 ∷ []) (blocks (block 0 0 0 10 4 ∷ []))
    ∷ entry (0 ∷ []) (4 ∷ []) (4 ∷ []) (blocks (block 0 0 0 4 4 ∷ []))
    ∷ entry (0 ∷ []) (4 ∷ []) (5 ∷ []) (nine 0)
    ∷ entry (0 ∷ 0 ∷ []) (4 ∷ 12 ∷ []) (2 ∷ 2 ∷ []) (blocks (block 0 0 0 4 2 ∷ block 1 1 4 12 2 ∷ []))
    ∷ entry (0 ∷ 6 ∷ []) (10 ∷ 10 ∷ []) (2 ∷ 2 ∷ []) (blocks (block 0 0 0 6 2 ∷ block 1 1 6 10 2 ∷ []))
    ∷ entry (0 ∷ 10 ∷ []) (4 ∷ 14 ∷ []) (2 ∷ 2 ∷ []) (blocks (block 0 0 0 4 2 ∷ block 1 1 10 14 2 ∷ []))
    ∷ entry (0 ∷ 4 ∷ []) (4 ∷ 8 ∷ []) (2 ∷ 2 ∷ []) (blocks (block 0 1 0 8 4 ∷ []))
    ∷ entry (0 ∷ 0 ∷ []) (10 ∷ 5 ∷ []) (3 ∷ 2 ∷ []) (blocks (block 0 1 0 5 5 ∷ []))
    ∷ entry (0 ∷ 0 ∷ 9 ∷ 9 ∷ []) (6 ∷ 20 ∷ 20 ∷ 12 ∷ []) (2 ∷ 2 ∷ 1 ∷ 1 ∷ []) (blocks (block 0 1 0 9 4 ∷ block 2 3 9 12 2 ∷ []))
    ∷ entry (0 ∷ 0 ∷ 12 ∷ []) (4 ∷ 20 ∷ 16 ∷ []) (2 ∷ 2 ∷ 2 ∷ []) (blocks (block 0 0 0 4 2 ∷ block 1 1 4 12 2 ∷ block 2 2 12 16 2 ∷ []))
    ∷ []

-- Answers that are wrong by one condition alone: each meets all the others, so none of these conditions can be left out of `Critical`. The one condition of its fifteen that no answer
-- here breaks alone is that paces are positive: it follows from `no_faster` where P/Q is positive (`positive_up`), and is there for rivals, which know no P/Q.
pub wrong : List Entry
wrong =
    -- a row without reports between two others
    entry (0 ∷ 0 ∷ []) (4 ∷ 12 ∷ []) (2 ∷ 2 ∷ []) (blocks (block 0 0 0 4 2 ∷ block 1 0 4 4 0 ∷ block 1 1 4 12 2 ∷ []))
    -- rows that do not begin with the first report
    ∷ entry (0 ∷ 0 ∷ []) (4 ∷ 8 ∷ []) (2 ∷ 2 ∷ []) (blocks (block 1 1 4 8 2 ∷ []))
    -- a list that is not covered to its end
    ∷ entry (0 ∷ 0 ∷ []) (4 ∷ 8 ∷ []) (2 ∷ 2 ∷ []) (blocks (block 0 0 0 4 2 ∷ []))
    -- operations that are not those of the reports
    ∷ entry (0 ∷ 5 ∷ []) (1 ∷ 6 ∷ []) (1 ∷ 1 ∷ []) (blocks (block 0 1 0 6 6 ∷ []))
    -- a start that is not the first report's
    ∷ entry (0 ∷ 5 ∷ []) (4 ∷ 9 ∷ []) (1 ∷ 1 ∷ []) (blocks (block 0 1 1 9 2 ∷ []))
    -- an end that is not the last report's finish
    ∷ entry (0 ∷ 5 ∷ []) (4 ∷ 9 ∷ []) (1 ∷ 1 ∷ []) (blocks (block 0 1 0 8 2 ∷ []))
    -- a deadline missed: the reports lumped together
    ∷ entry (0 ∷ 0 ∷ []) (3 ∷ 8 ∷ []) (2 ∷ 2 ∷ []) (blocks (block 0 1 0 8 4 ∷ []))
    -- a pace below the fastest
    ∷ entry (0 ∷ []) (2 ∷ []) (4 ∷ []) (blocks (block 0 0 0 2 4 ∷ []))
    -- property 1: idle time before the deadline
    ∷ entry (0 ∷ 10 ∷ []) (4 ∷ 14 ∷ []) (2 ∷ 2 ∷ []) (blocks (block 0 0 0 2 2 ∷ block 1 1 10 14 2 ∷ []))
    -- property 1: idle time where there need be none (the least high without the lows)
    ∷ entry (0 ∷ 6 ∷ []) (10 ∷ 10 ∷ []) (2 ∷ 2 ∷ []) (blocks (block 0 0 0 5 2 ∷ block 1 1 6 10 2 ∷ []))
    -- property 2: a rise before the deadline
    ∷ entry (0 ∷ 0 ∷ []) (4 ∷ 12 ∷ []) (2 ∷ 2 ∷ []) (blocks (block 0 0 0 3 2 ∷ block 1 1 3 12 2 ∷ []))
    -- property 3: a fall behind the next arrival
    ∷ entry (0 ∷ 0 ∷ []) (10 ∷ 10 ∷ []) (2 ∷ 2 ∷ []) (blocks (block 0 0 0 6 2 ∷ block 1 1 6 10 2 ∷ []))
    -- property 4: all at the fastest pace, with time left at the end
    ∷ entry (0 ∷ []) (10 ∷ []) (4 ∷ []) (blocks (block 0 0 0 4 4 ∷ []))
    -- longest runs: the first and not the last of equal highs; a split where arrival equals deadline
    ∷ entry (0 ∷ 4 ∷ []) (4 ∷ 8 ∷ []) (2 ∷ 2 ∷ []) (blocks (block 0 0 0 4 2 ∷ block 1 1 4 8 2 ∷ []))
    -- a refusal where there is a plan, and one at a later report than the first without a plan
    ∷ entry (0 ∷ []) (4 ∷ []) (4 ∷ []) (nine 0)
    ∷ entry (0 ∷ 0 ∷ []) (4 ∷ 4 ∷ []) (5 ∷ 1 ∷ []) (nine 1)
    ∷ []

-- ---- the test, and the law that turns it into the definitions
-- a place of refusal is right exactly when the pass holds before it and stops there
abbrev test_nine : (ℓ : Reports) (i : ℕ) → Test (FirstWithout ℓ P/Q i)
test_nine ℓ i =
    test_as (λ s. stops_first ℓ P/Q one i s.0 s.1.0 s.1.1) (λ w. (w.on_list, (first_timely ℓ P/Q one i w, first_stops ℓ P/Q one i w)))
    (test_and (test_lt i ℓ.count)
    (test_and (test_below i (λ j. test_≼ (finish ℓ (steady P/Q) j) (whole (ℓ.deadline j)))) (test_≺ (whole (ℓ.deadline i)) (finish ℓ (steady P/Q) i))))

test_right : (ℓ : Reports) (r : Result) → Test (Right ℓ r)
unfolding Right
test_right ℓ (blocks rows) = test_critical ℓ P/Q (length rows) (λ k. get_or rows k (block 0 0 0 0 0))
test_right ℓ (nine place) = test_nine ℓ place

passes : Entry → Bool
passes e = (test_right (list_of e.arrivals e.deadlines e.operations) e.result).bit

-- a test over a whole table
abbrev every : (Entry → Bool) → List Entry → Bool
every f [] = true
every f (e ∷ es) = f e && every f es

all_right : (es : List Entry) → T (every passes es) → AllRight es
unfolding AllRight passes
all_right [] t = tt
all_right (e ∷ es) t =
    ((test_right (list_of e.arrivals e.deadlines e.operations) e.result).sound (and_left (passes e) (every passes es) t), all_right es (and_right (passes e) (every passes es) t))

none_right : (es : List Entry) → T (every (λ e. not (passes e)) es) → NoneRight es
unfolding NoneRight passes
none_right [] t = tt
none_right (e ∷ es) t =
    ((test_not (test_right (list_of e.arrivals e.deadlines e.operations) e.result)).sound (and_left (not (passes e)) (every (λ x. not (passes x)) es) t), none_right es (and_right (not (passes e)) (every (λ x. not (passes x)) es) t))

-- The eleven starred rows hold.
pub starred_right : AllRight starred
unfolding starred passes test_right Right start holder behind sum whole over plus times later
starred_right = all_right starred tt

-- And none of the wrong answers does.
pub wrong_refuted : NoneRight wrong
unfolding wrong passes test_right Right start holder behind sum whole over plus times later
wrong_refuted = none_right wrong tt
