-- 01's sample, of the definitions: its outcome, and its text.
-- Assumes nothing.
use Prim.Native.Nat.{ℕ, ◌+◌, ◌*◌, ◌-◌, ◌≤◌, ◌<◌}
use mathlib.Core.Path.{◌≡◌, refl, ◌∙◌, subst}
use mathlib.Core.List.{List, [], ◌∷◌, ◌++◌}
use mathlib.Core.Logic.{inr}
use native.Mathlib.Omega.{arith}
use native.Mathlib.Decide.{ℕ_discrete, dec_lt}
use lib.ListN.{length, get_or, drop, length-drop}
use lib.Seq.{get_or-append-add, get_or-drop}
use Rattle.answers.specs.Numbers.{width}
use Rattle.trials.specs.Rules.{Falls}
use Rattle.trials.proofs.Passing.{Passed}
use Rattle.trials.proofs.Deciding.{Decidable, Decides, Decided, deciding, dec_below, dec_equal, dec_not, dec_or, dec_falls, decides_none, decides_overall, decides_least, least_or_none, passes, passed_by}
use Rattle.fraction.specs.Fraction.{whole, over, plus, times, later}
use Rattle.critical.specs.Reports.{start}
use Rattle.critical.specs.Rows.{holder, behind, sum, Critical}
use Rattle.critical.proofs.Tests.{test_critical}
use Rattle.rules.specs.Offsets.{Input, reports_of, fastest_of}
use Rattle.rules.specs.Rules.{earlier_rules}
use Rattle.planner.specs.Outcome.{row_at, Written}
use Rattle.planner.proofs.Outcomes.{accepts}
use Rattle.roll.specs.Format.{ends_in, trailer_long, floor_of, file_rules, input_of}
use Rattle.lists.specs.Listed.{listed}
use Rattle.rules.proofs.Floors.{dec_floor, dec_slower}
use Rattle.roll.proofs.Marking.{dec_marked}
use Rattle.text.specs.Text.{places_up_to, line, row_lines, plan_text}
use Rattle.rolltext.specs.Program.{long_rule, ProgramOutcome}

-- 64000000 68000000 02000000 64000000 70000000 02000000 28000000 64000000 0200 0100 0100 4151
pub sample : List ℕ
sample =
    0x64 ∷ 0 ∷ 0 ∷ 0 ∷ 0x68 ∷ 0 ∷ 0 ∷ 0 ∷ 2 ∷ 0 ∷ 0 ∷ 0
    ∷ 0x64 ∷ 0 ∷ 0 ∷ 0 ∷ 0x70 ∷ 0 ∷ 0 ∷ 0 ∷ 2 ∷ 0 ∷ 0 ∷ 0
    ∷ 0x28 ∷ 0 ∷ 0 ∷ 0 ∷ 0x64 ∷ 0 ∷ 0 ∷ 0 ∷ 2 ∷ 0 ∷ 1 ∷ 0 ∷ 1 ∷ 0 ∷ 0x41 ∷ 0x51 ∷ []

-- the sample's rows, as 01 shows them
pub rows_of_sample : List ℕ
rows_of_sample = 0 ∷ 0 ∷ 0 ∷ 4 ∷ 2 ∷ 1 ∷ 1 ∷ 4 ∷ 12 ∷ 2 ∷ []

-- a row buffer with them at its front
pub planned : List ℕ → List ℕ
planned b = rows_of_sample ++ drop (width * 2) b

-- The text of the sample's plan, to the byte: "plan 0 0 2", "0 0 0 4 2", "1 1 4 12 2".
pub sample_text :
    (b : List ℕ) → plan_text 0 0 2 (planned b)
    ≡ 112 ∷ 108 ∷ 97 ∷ 110 ∷ 32 ∷ 48 ∷ 32 ∷ 48 ∷ 32 ∷ 50 ∷ 10
    ∷ 48 ∷ 32 ∷ 48 ∷ 32 ∷ 48 ∷ 32 ∷ 52 ∷ 32 ∷ 50 ∷ 10
    ∷ 49 ∷ 32 ∷ 49 ∷ 32 ∷ 52 ∷ 32 ∷ 49 ∷ 50 ∷ 32 ∷ 50 ∷ 10 ∷ []
unfolding planned rows_of_sample places_up_to line row_lines
sample_text b = refl

module _ (b : List ℕ) where
  abbrev x : Input
  x = input_of sample b

  sample_rows : Critical (reports_of x) (fastest_of x) 2 (row_at (planned b))
  unfolding sample planned rows_of_sample listed start holder behind sum whole over plus times later
  sample_rows = (test_critical (reports_of x) (fastest_of x) 2 (row_at (planned b))).sound tt

  sample_written : width * 2 ≤ length b → Written (reports_of x) (fastest_of x) b 2 (planned b)
  unfolding planned rows_of_sample
  sample_written h = record {
    rows = sample_rows;
    as_long = omega (arith, length-drop (width * 2) b, h);
    behind = λ i l. subst (λ (k : ℕ). get_or (planned b) k 0 ≡ get_or b k 0) (same i l) (get_or-append-add rows_of_sample (drop (width * 2) b) (i - width * 2) 0 ∙ get_or-drop (width * 2) b (i - width * 2) 0);
  }
    where
      same : (i : ℕ) → width * 2 ≤ i → width * 2 + (i - width * 2) ≡ i
      same i l = omega arith

  -- the rules before rule 9 can be decided,
  unfoldable decides_sample : width * 2 ≤ length b → Decides (long_rule sample ∷ (file_rules sample ++ earlier_rules x))
  unfolding sample listed
  decides_sample h = let room : Decidable (length b < width * length x.arrivals) = record { decided = inr (λ l. omega (arith, h, l)) } in search (deciding, dec_marked, dec_floor, dec_slower) depth 60

  -- and none is given, which is computed
  sample_form : width * 2 ≤ length b → Passed (long_rule sample ∷ (file_rules sample ++ earlier_rules x))
  unfolding sample listed ends_in trailer_long floor_of dec_floor dec_slower decides_sample passes Decided dec_below dec_equal dec_not dec_or dec_falls dec_marked decides_none decides_overall decides_least least_or_none Falls ℕ_discrete dec_lt
  sample_form h = passed_by (decides_sample h) tt

  -- The sample is accepted, with the two rows of 01.
  pub sample_outcome : width * 2 ≤ length b → ProgramOutcome sample b 0 0 2 (planned b)
  sample_outcome h =
      accepts (reports_of x) (fastest_of x) b (long_rule sample ∷ (file_rules sample ++ earlier_rules x)) 2 (planned b) (sample_form h) (sample_written h)
