-- What a caller with row room for 1,024 reports, and text room for as many lines, is told: the text is there whole, and rules 1 and 3 are never given.
-- Assumes nothing.
use Prim.Native.Nat.{ℕ, zero, suc, ◌*◌, ◌≤◌}
use mathlib.Core.Path.{◌≡◌, sym, ◌∙◌}
use mathlib.Core.List.{List}
use mathlib.Core.Logic.{⊎_elim}
use native.Mathlib.Omega.{arith}
use lib.ListN.{length}
use Rattle.answers.specs.Numbers.{width}
use Rattle.trials.proofs.Passing.{Passed, Quiet, finding}
use Rattle.trials.proofs.Numbers.{Never, never_none, never_other, never_this}
use Rattle.critical.proofs.Theorems.{few_blocks}
use Rattle.rules.specs.Offsets.{Input, offset, reports_of, fastest_of}
use Rattle.rules.specs.Rules.{lengths_rule, many_rule, short_rule}
use Rattle.planner.specs.Outcome.{Outcome}
use Rattle.lists.proofs.Filling.{length-map}
use Rattle.rules.proofs.Leaving.{few_reports}
use Rattle.roll.specs.Format.{input_of, records_of, count_of}
use Rattle.roll.proofs.Rolls.{column_long}
use Rattle.lists.specs.Puts.{Puts}
use Rattle.text.specs.Text.{Room, plan_text, text_room}
use Rattle.rolltext.specs.Program.{program_rules, ProgramOutcome, Says}

module _ (s buffer : List ℕ) where
  abbrev x : Input
  x = input_of s buffer

  -- an outcome has room for its text
  pub outcome_room :
      (number place blocks : ℕ) (after out : List ℕ) →
      ProgramOutcome s buffer number place blocks after → width * 1024 ≤ length buffer → text_room 1024 ≤ length out → Room blocks after out
  unfolding Outcome
  outcome_room zero place blocks after out o rows text =
      let p : Passed (program_rules s x) = record { accepted = o.0 } in
      let many : Quiet (many_rule (length x.arrivals)) = search finding depth 40 in
      let all : (reports_of x).count ≡ length x.arrivals = length-map (offset x.terms.reference) x.arrivals in
      let most : blocks ≤ 1024 = omega (arith, few_blocks (reports_of x) (fastest_of x) blocks _ o.2.rows, all, few_reports many) in
      record { few = most; rows_long = omega (arith, most, o.2.as_long, rows); out_long = omega (arith, most, text) }
  outcome_room (suc number) place blocks after out o rows text =
      record { few = omega (arith, o.1); rows_long = omega (arith, o.1); out_long = omega (arith, o.1, text) }

  -- The text is there whole: its length comes back, and nothing else of the buffer is written.
  pub said_in_full :
      (out : List ℕ) (r : ℕ) (after text : List ℕ) (v : Says s buffer out r after text) →
      width * 1024 ≤ length buffer → text_room 1024 ≤ length out → Puts out 0 (plan_text v.number v.place v.blocks after) r text
  said_in_full out r after text v rows room = v.said.put (outcome_room v.number v.place v.blocks after out v.outcome rows room)

  -- ---- rules that no roll breaks
  -- Rule 1 is never given: the columns of a roll are equally long.
  one_silent : Never 1 (program_rules s x)
  one_silent =
      let long : (at : ℕ) → _ = column_long (records_of s) (count_of s) in
      let even : Quiet (lengths_rule (length x.arrivals) (length x.deadlines) (length x.operations)) =
      record { silent = λ p g. ⊎_elim (λ n. n (long 0 ∙ sym (long 4))) (λ n. n (long 0 ∙ sym (long 8))) g.0 } in
      search (never_other, never_this, never_none) depth 60

  pub never_one : (place blocks : ℕ) (after : List ℕ) → ProgramOutcome s buffer 1 place blocks after → ⊥
  unfolding Outcome
  never_one place blocks after o = one_silent.never place o.0

  -- Rule 3 is never given where there is row room for 1,024 reports: rule 2 comes before it.
  three_silent : width * 1024 ≤ length buffer → Never 3 (program_rules s x)
  three_silent h =
      let room : Quiet (many_rule (length x.arrivals)) → Quiet (short_rule (length x.arrivals) (length x.buffer)) =
      λ many. record { silent = λ p g. omega (arith, few_reports many, h, g.0) } in
      search (never_other, never_this, never_none) depth 60

  pub never_three : (place blocks : ℕ) (after : List ℕ) → width * 1024 ≤ length buffer → ProgramOutcome s buffer 3 place blocks after → ⊥
  unfolding Outcome
  never_three place blocks after h o = (three_silent h).never place o.0
