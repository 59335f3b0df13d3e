-- 01's table ("Lists on both sides of a line") through the whole promise of `plan`: number, place, rows, and what the row buffer then holds. A test is computed
-- over each whole table; one law turns it into the promise. The starred rows by themselves, of the definitions, are critical/proofs/Table.antt.
-- Assumes nothing.
use Rattle.std.proofs.Common.{◌≡◌, ℕ, zero, suc, ◌+◌, ◌-◌, ◌*◌, ◌<◌, ◌≤◌, Bool, true, false, ◌&&◌, T, ◌⊎◌, List, [], ◌∷◌, ◌++◌, map, length, get_or, drop, replicate, sym, refl, ◌∙◌, inl, inr, arith, length-append, length-drop, get_or-drop, get_or-append-add}
use native.Mathlib.Decide.{ℕ_discrete, dec_lt}
use Rattle.answers.specs.Numbers.{width}
use Rattle.trials.specs.Rules.{Falls}
use Rattle.trials.proofs.Passing.{Passed, Quiet, finding}
use Rattle.trials.proofs.Deciding.{Gives, Decided, dec_below, dec_equal, dec_not, dec_or, dec_falls, decides_none, decides_overall, decides_least, least_or_none, outcome, passed_or_given}
use Rattle.fraction.specs.Fraction.{Fraction, ◌≺◌, whole, over, plus, times, later}
use Rattle.critical.specs.Reports.{Reports, start, finish, steady}
use Rattle.critical.specs.Rows.{Row, holder, behind, sum, Critical}
use Rattle.critical.proofs.Room.{TimelyTo, stops_first}
use Rattle.critical.proofs.Tests.{Test, test_and, test_le, test_lt, test_eq, test_≼, test_≺, test_below, test_critical, and_left, and_right}
use Rattle.critical.proofs.Table.{block}
use Rattle.critical.proofs.Table as Definitions
use Rattle.rules.specs.Offsets.{Input, reports_of, fastest_of}
use Rattle.rules.specs.Rules.{OfFloor, pace_rule, plan_rule, earlier_rules}
use Rattle.rules.specs.declared.Roll.{Roll}
use Rattle.std.specs.Prelude.{Option, None, Some}
use Rattle.fraction.specs.declared.Pace.{Pace}
use Rattle.rules.proofs.Leaving.{good_pace}
use Rattle.rules.proofs.Floors.{dec_floor, dec_slower}
use Rattle.rules.proofs.Table.{decided}
use Rattle.planner.specs.Outcome.{row_at, Written, PlanOutcome}
use Rattle.planner.proofs.Outcomes.{refused_outcome, accepts, rejects, positive}

-- what a list gets: rows, or a refusal with its number and place
pub data Result : Type 0 where
  planned : List Row → Result
  refused : ℕ → ℕ → Result

-- a row of the table: the three lists of readings, reference, P and Q, the floor, how many numbers the row buffer has, and the result
pub record Entry : Type 0 where
  pub arrivals : List ℕ
  pub deadlines : List ℕ
  pub operations : List ℕ
  pub terms : Roll
  pub floor : Option Pace
  pub room : ℕ
  pub result : Result

-- what is handed in: with a buffer that holds 7s
abbrev pub input : Entry → Input
input e = record {
  arrivals = e.arrivals;
  deadlines = e.deadlines;
  operations = e.operations;
  terms = e.terms;
  floor = e.floor;
  buffer = replicate e.room 7;
}

-- the number of a result
abbrev pub result_number : Result → ℕ
result_number (planned rows) = 0
result_number (refused number place) = number

-- its place
abbrev pub result_place : Result → ℕ
result_place (planned rows) = 0
result_place (refused number place) = place

-- its block count
abbrev pub result_blocks : Result → ℕ
result_blocks (planned rows) = length rows
result_blocks (refused number place) = 0

-- the numbers of rows, in the order in which they stand in a buffer
abbrev pub numbers_in : List Row → List ℕ
numbers_in [] = []
numbers_in (r ∷ rs) = r.first ∷ r.last ∷ r.start ∷ r.end ∷ r.operations ∷ numbers_in rs

-- what a buffer holds behind a result: the numbers of the rows, then the rest of it as it was
abbrev pub after : Result → List ℕ → List ℕ
after (planned rows) before = numbers_in rows ++ drop (length (numbers_in rows)) before
after (refused number place) before = before

-- the promise of `plan` gives an input this result
abbrev pub Gets : Input → Result → Type 0
Gets x r = PlanOutcome x (result_number r) (result_place r) (result_blocks r) (after r x.buffer)

-- the answer is the one of the table
abbrev pub Given : Entry → Type 0
Given e = Gets (input e) e.result

-- every entry of a table is
unfoldable pub AllGiven : List Entry → Type 0
AllGiven [] = Unit {0}
AllGiven (e ∷ es) = Given e × AllGiven es

-- a row of the table, with reference, P and Q, and without a floor; the buffer has a row's width for each report and two numbers more
abbrev entry : List ℕ → List ℕ → List ℕ → ℕ → ℕ → ℕ → Result → Entry
entry a d w reference p q r = record {
  arrivals = a;
  deadlines = d;
  operations = w;
  terms = record { reference = reference; p = p; q = q };
  floor = None;
  room = width * length a + 2;
  result = r;
}

-- one with reference 0 and P/Q 1/1
abbrev plain : List ℕ → List ℕ → List ℕ → Result → Entry
plain a d w r = entry a d w 0 1 1 r

-- one with another buffer besides
abbrev within : ℕ → Entry → Entry
within n e = record { arrivals = e.arrivals; deadlines = e.deadlines; operations = e.operations; terms = e.terms; floor = e.floor; room = n; result = e.result }

-- one with the floor R/T besides
abbrev slowest : ℕ → ℕ → Entry → Entry
slowest r t e = record { arrivals = e.arrivals; deadlines = e.deadlines; operations = e.operations; terms = e.terms; floor = Some (record { ticks = r; operations = t }); room = e.room; result = e.result }

-- a result of the definitions' table
abbrev result_of : Definitions.Result → Result
result_of (Definitions.blocks rows) = planned rows
result_of (Definitions.nine place) = refused 9 place

-- The starred rows, as the definitions' table has them.
unfoldable pub starred : List Entry
starred = map (λ e. plain e.arrivals e.deadlines e.operations (result_of e.result)) Definitions.starred

-- The rows without a star; 01's list with a reference; and a list each for the refusals 1, 2, 3, 4 and 6.
pub others : List Entry
others =
    entry (0 ∷ []) (2 ∷ []) (3 ∷ []) 0 2 3 (planned (block 0 0 0 2 3 ∷ []))
    ∷ entry (0 ∷ []) (2 ∷ []) (4 ∷ []) 0 2 3 (refused 9 0)
    ∷ plain (0 ∷ []) (2147483647 ∷ []) (1 ∷ []) (planned (block 0 0 0 2147483647 1 ∷ []))
    ∷ plain (0 ∷ []) (2147483648 ∷ []) (1 ∷ []) (refused 7 0)
    ∷ plain (5 ∷ 4 ∷ []) (20 ∷ 20 ∷ []) (2 ∷ 2 ∷ []) (refused 8 1)
    ∷ plain (5 ∷ 4 ∷ []) (20 ∷ 20 ∷ []) (2 ∷ 0 ∷ []) (refused 5 1)
    ∷ entry (4294967295 ∷ 3 ∷ []) (9 ∷ 14 ∷ []) (2 ∷ 2 ∷ []) 4294967290 1 1 (planned (block 0 1 5 20 4 ∷ []))
    ∷ plain (0 ∷ []) (2 ∷ 2 ∷ []) (1 ∷ []) (refused 1 0)
    ∷ plain (replicate 1025 0) (replicate 1025 2) (replicate 1025 1) (refused 2 0)
    ∷ within 9 (plain (0 ∷ 0 ∷ []) (2 ∷ 2 ∷ []) (1 ∷ 1 ∷ []) (refused 3 0))
    ∷ entry (0 ∷ []) (2 ∷ []) (1 ∷ []) 0 1 65536 (refused 4 0)
    ∷ plain (0 ∷ 2147483648 ∷ []) (2 ∷ 2 ∷ []) (1 ∷ 1 ∷ []) (refused 6 1)
    ∷ []

-- Lists with a floor (02, W2): rows as without one, on both sides of 16 and of 17, and where they stand in the order.
pub floors : List Entry
floors =
    slowest 2 1 (plain (0 ∷ []) (10 ∷ []) (4 ∷ []) (planned (block 0 0 0 10 4 ∷ [])))
    ∷ slowest 65535 1 (plain (0 ∷ []) (10 ∷ []) (4 ∷ []) (planned (block 0 0 0 10 4 ∷ [])))
    ∷ slowest 2 2 (plain (0 ∷ []) (10 ∷ []) (4 ∷ []) (planned (block 0 0 0 10 4 ∷ [])))
    ∷ slowest 65534 65535 (plain (0 ∷ []) (10 ∷ []) (4 ∷ []) (refused 17 0))
    ∷ slowest 0 1 (plain (0 ∷ []) (10 ∷ []) (4 ∷ []) (refused 16 0))
    ∷ slowest 1 0 (plain (0 ∷ []) (10 ∷ []) (4 ∷ []) (refused 16 0))
    ∷ slowest 65536 1 (plain (0 ∷ []) (10 ∷ []) (4 ∷ []) (refused 16 0))
    ∷ slowest 65536 65536 (plain (0 ∷ []) (10 ∷ []) (4 ∷ []) (refused 16 0))
    ∷ slowest 0 0 (entry (0 ∷ []) (10 ∷ []) (4 ∷ []) 0 0 1 (refused 4 0))
    ∷ slowest 1 2 (plain (0 ∷ []) (10 ∷ []) (0 ∷ []) (refused 17 0))
    ∷ slowest 1 1 (plain (0 ∷ []) (10 ∷ []) (0 ∷ []) (refused 5 0))
    ∷ slowest 2 3 (entry (0 ∷ []) (2 ∷ []) (4 ∷ []) 0 2 3 (refused 9 0))
    ∷ []

-- ---- rows at the front of a buffer
-- rows have a row's width of numbers each
numbers_length : (rows : List Row) → length (numbers_in rows) ≡ width * length rows
numbers_length [] = refl
numbers_length (r ∷ rs) = omega (arith, numbers_length rs)

-- behind numbers put at its front it is as it was
laid_behind : (xs b : List ℕ) (i : ℕ) → length xs ≤ i → get_or (xs ++ drop (length xs) b) i 0 ≡ get_or b i 0
laid_behind xs b i h = let same : length xs + (i - length xs) ≡ i = omega arith in rw (sym same) (get_or-append-add xs (drop (length xs) b) (i - length xs) 0 ∙ get_or-drop (length xs) b (i - length xs) 0)

-- so rows at its front are written as the promise says
written : (ℓ : Reports) (f : Fraction) (rows : List Row) (b : List ℕ) → length (numbers_in rows) ≤ length b → Critical ℓ f (length rows) (row_at (after (planned rows) b)) → Written ℓ f b (length rows) (after (planned rows) b)
written ℓ f rows b h c = record {
  rows = c;
  as_long = length-append (numbers_in rows) (drop (length (numbers_in rows)) b) ∙ omega (arith, length-drop (length (numbers_in rows)) b, h);
  behind = λ i l. laid_behind (numbers_in rows) b i (omega (arith, numbers_length rows));
}

-- ---- the test, and the law that turns it into the promise
module _ (x : Input) where
  -- its reports
  abbrev ℓ : Reports
  ℓ = reports_of x

  -- its fastest pace
  abbrev f : Fraction
  f = fastest_of x

  -- there is room for the rows, and they are those of the plan wanted
  abbrev fit : (rows : List Row) → Test ((length (numbers_in rows) ≤ length x.buffer) × Critical ℓ f (length rows) (row_at (after (planned rows) x.buffer)))
  fit rows = test_and (test_le (length (numbers_in rows)) (length x.buffer)) (test_critical ℓ f (length rows) (row_at (after (planned rows) x.buffer)))

  -- the number is 9, and the pass at the fastest pace is in time before the place and stops there
  abbrev stop : (number place : ℕ) → Test ((number ≡ 9) × ((place < ℓ.count) × (TimelyTo ℓ f place × (whole (ℓ.deadline place) ≺ finish ℓ (steady f) place))))
  stop number place =
      test_and (test_eq number 9)
      (test_and (test_lt place ℓ.count)
      (test_and (test_below place (λ j. test_≼ (finish ℓ (steady f) j) (whole (ℓ.deadline j)))) (test_≺ (whole (ℓ.deadline place)) (finish ℓ (steady f) place))))

  -- number and place are those that a rule before rule 9 gives
  abbrev same : (g : Gives (earlier_rules x)) (number place : ℕ) → Test ((number ≡ g.number) × (place ≡ g.place))
  same g number place = test_and (test_eq number g.number) (test_eq place g.place)

  -- a result, held against what the rules before rule 9 give
  meets : Passed (earlier_rules x) ⊎ Gives (earlier_rules x) → Result → Bool
  meets (inl p) (planned rows) = (fit rows).bit
  meets (inl p) (refused number place) = (stop number place).bit
  meets (inr g) (planned rows) = false
  meets (inr g) (refused number place) = (same g number place).bit

  -- a result that meets it is what the promise gives
  sound : (s : Passed (earlier_rules x) ⊎ Gives (earlier_rules x)) (r : Result) → T (meets s r) → Gets x r
  unfolding meets
  sound (inl p) (planned rows) t =
      let s = (fit rows).sound t in
      accepts ℓ f x.buffer (earlier_rules x) (length rows) (after (planned rows) x.buffer) p (written ℓ f rows x.buffer s.0 s.1)
  sound (inl p) (refused number place) t =
      let s = (stop number place).sound t in
      let pace : Quiet (pace_rule x.terms) = search finding depth 40 in
      rw s.0 (rejects ℓ f x.buffer (earlier_rules x) place p (stops_first ℓ f (positive ℓ x.terms (good_pace pace) x.buffer) place s.1.0 s.1.1.0 s.1.1.1))
  sound (inr g) (planned rows) t = absurd t
  sound (inr g) (refused number place) t =
      let s = (same g number place).sound t in
      rw (s.0, s.1) (refused_outcome ℓ f x.buffer (earlier_rules x) (plan_rule ℓ f ∷ []) g.number g.place 0 x.buffer (record { numbered = g.numbered; refused = g.refused; no_blocks = refl; untouched = refl }))

-- the rules before rule 9 are decided by computing, and so is the rest
test : Entry → Bool
unfolding meets decided OfFloor dec_floor dec_slower passed_or_given outcome Decided dec_below dec_equal dec_not dec_or dec_falls decides_none decides_overall decides_least least_or_none Falls ℕ_discrete dec_lt start holder behind sum whole over plus times later
test e = meets (input e) (passed_or_given (decided (input e))) e.result

-- of a whole table
every : List Entry → Bool
every [] = true
every (e ∷ es) = test e && every es

-- the law
all_given : (es : List Entry) → T (every es) → AllGiven es
unfolding AllGiven every test
all_given [] t = tt
all_given (e ∷ es) t =
    (sound (input e) (passed_or_given (decided (input e))) e.result (and_left (test e) (every es) t), all_given es (and_right (test e) (every es) t))

-- The eleven starred rows.
pub starred_given : AllGiven starred
unfolding starred Definitions.starred every test
starred_given = all_given starred tt

-- And the others.
pub others_given : AllGiven others
unfolding others every test
others_given = all_given others tt

-- And those with a floor.
pub floors_given : AllGiven floors
unfolding floors every test
floors_given = all_given floors tt

-- A table holds from any entry on.
pub given_from : (n : ℕ) (es : List Entry) → AllGiven es → AllGiven (drop n es)
unfolding AllGiven
given_from zero es g = g
given_from (suc n) [] g = g
given_from (suc n) (e ∷ es) g = given_from n es g.1
