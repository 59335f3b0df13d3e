-- The inspector's questions, for what a person sees: the first line that the program writes. For the inspector. Each follows from the promise of `roll_text` alone, `Says`
-- (specs/Program.antt), which is proved of the running code for every input. s is the program's input; rows and out are buffers as long as the program's; r, after and text are
-- what `roll_text` returns and what the two buffers then hold. The program writes the first r bytes of text, and nothing else.
-- Nothing is assumed.
use Prim.Native.Nat.{ℕ, ◌*◌, ◌≤◌}
use mathlib.Core.Path.{◌≡◌, sym, ◌∙◌, ap, subst}
use mathlib.Core.List.{List, [], ◌∷◌}
use mathlib.Core.Logic.{◌⊎◌, inl, inr, ⊎_elim}
use Rattle.std.specs.Prelude.{Option}
use native.Mathlib.Omega.{arith}
use lib.ListN.{length, take}
use Rattle.answers.specs.Numbers.{width}
use Rattle.trials.specs.Rules.{Accepted}
use Rattle.trials.proofs.Numbers.{Never, never_none, never_other}
use Rattle.fraction.specs.Fraction.{Fraction, ◌≼◌, ◌≺◌, whole}
use Rattle.critical.specs.Reports.{Reports, Paces, finish, Keeps, Allowed, steady}
use Rattle.critical.specs.Cost.{sum_at}
use Rattle.slowest.specs.Slowest.{UpTo, NoSlower}
use Rattle.rules.specs.Offsets.{Input, reports_of, fastest_of, slowest_of}
use Rattle.planner.specs.Outcome.{running_in, RefusedBy}
use Rattle.planner.proofs.Outcomes.{by_either}
use Rattle.roll.specs.Format.{input_of, roll_rules, RollOutcome}
use Rattle.roll.proofs.Demands as Of
use Rattle.lists.proofs.Putting.{put_front}
use Rattle.text.specs.Text.{row_lines, plan_text, text_room}
use Rattle.text.proofs.FirstLine.{one_first_line}
use Rattle.rolltext.specs.Program.{long_rule, ProgramOutcome, Says, Begins}
use Rattle.rolltext.proofs.Buffers.{said_in_full}

module _ (s rows out : List ℕ) (r : ℕ) (after text : List ℕ) (says : Says s rows out r after text) (rows_long : width * 1024 ≤ length rows) (out_long : text_room 1024 ≤ length out) where
  -- The list in the input.
  abbrev list : Input
  list = input_of s rows

  abbrev reports : Reports
  reports = reports_of list

  abbrev fastest : Fraction
  fastest = fastest_of list

  -- The slowest pace that its floor gives: none, where the mark is AQ.
  abbrev slowest : Option Fraction
  slowest = slowest_of list

  -- What is written.
  abbrev written : List ℕ
  written = take r text

  written_is : written ≡ plan_text says.number says.place says.blocks after
  written_is = put_front (said_in_full s rows out r after text says rows_long out_long)

  -- The first line is there, and it tells the outcome: no other numbers can be read off it.
  pub it_begins : Begins written says.number says.place says.blocks
  it_begins = record { rest = row_lines after says.blocks; is = written_is }

  told : (number place blocks : ℕ) → Begins written number place blocks → (says.number ≡ number) × (says.place ≡ place) × (says.blocks ≡ blocks)
  told number place blocks b = one_first_line says.number says.place says.blocks number place blocks (row_lines after says.blocks) b.rest (sym written_is ∙ b.is)

  pub the_first_line_tells_the_outcome : (number place blocks : ℕ) → Begins written number place blocks → ProgramOutcome s rows number place blocks after
  the_first_line_tells_the_outcome number place blocks b =
      let e = told number place blocks b in
      subst (λ (k : ℕ). ProgramOutcome s rows k place blocks after) e.0
      (subst (λ (k : ℕ). ProgramOutcome s rows says.number k blocks after) e.1
      (subst (λ (k : ℕ). ProgramOutcome s rows says.number says.place k after) e.2 says.outcome))

  -- It says 14 where the input is too long; else it says the answer for the roll.
  pub too_long_or_the_answer_for_the_roll :
      (number place blocks : ℕ) → Begins written number place blocks →
      RefusedBy (long_rule s ∷ []) rows number place blocks after ⊎ (Accepted (long_rule s ∷ []) × RollOutcome s rows number place blocks after)
  too_long_or_the_answer_for_the_roll number place blocks b =
      ⊎_elim inl (λ p. inr (p.0.accepted, p.1)) (by_either reports fastest rows (long_rule s ∷ []) (roll_rules s list) number place blocks after (the_first_line_tells_the_outcome number place blocks b))

  planned : (place blocks : ℕ) → Begins written 0 place blocks → RollOutcome s rows 0 place blocks after
  planned place blocks b = ⊎_elim (λ h. absurd (omega (arith, h.numbered))) (λ p. p.1) (too_long_or_the_answer_for_the_roll 0 place blocks b)

  never_nine : Never 9 (long_rule s ∷ [])
  never_nine = search (never_other, never_none) depth 40

  without_a_plan : (place blocks : ℕ) → Begins written 9 place blocks → RollOutcome s rows 9 place blocks after
  without_a_plan place blocks b = ⊎_elim (λ h. absurd (never_nine.never place h.refused)) (λ p. p.1) (too_long_or_the_answer_for_the_roll 9 place blocks b)

  -- ---- The inspector's three questions

  -- "Was there a plan that kept every window?" Yes, where the first line begins with `plan 0`: what runs is one, each report at the pace of its row, and the rows are the lines that follow; or at the floor, where that is faster.
  pub was_there_a_plan : (place blocks : ℕ) → Begins written 0 place blocks → Allowed reports fastest (running_in list blocks after) × NoSlower reports slowest (running_in list blocks after)
  was_there_a_plan place blocks b = Of.was_there_a_plan s rows place blocks after (planned place blocks b)

  pub the_lines_that_follow_are_the_rows : (place blocks : ℕ) → Begins written 0 place blocks → written ≡ plan_text 0 place blocks after
  the_lines_that_follow_are_the_rows place blocks b =
      let e = told 0 place blocks b in
      written_is ∙ ap (λ (k : ℕ). plan_text k says.place says.blocks after) e.0
      ∙ ap (λ (k : ℕ). plan_text 0 k says.blocks after) e.1 ∙ ap (λ (k : ℕ). plan_text 0 place k after) e.2

  -- "When a buoy says there is none, how do you know?" Where it begins with `plan 9` and a report, every plan fails that runs no report faster than P/Q; and with all reports at that pace,
  -- the report named still comes late.
  pub how_do_you_know_there_is_none :
      (place blocks : ℕ) → Begins written 9 place blocks →
      ((T : Paces) → Allowed reports fastest T → ⊥) × NoSlower reports slowest (steady fastest) × (whole (reports.deadline place) ≺ finish reports (steady fastest) place)
  how_do_you_know_there_is_none place blocks b = Of.how_do_you_know_there_is_none s rows place blocks after (without_a_plan place blocks b)

  -- "When it hurries, did it need to?" Yes, over the whole list: at no threshold c up to the floor has a plan that keeps the list a smaller sum of operations times shortfall than what runs.
  pub did_it_need_to_hurry :
      (place blocks : ℕ) → Begins written 0 place blocks →
      (rival : Paces) → Keeps reports rival → (c : Fraction) → UpTo slowest c → sum_at reports c (running_in list blocks after) ≼ sum_at reports c rival
  did_it_need_to_hurry place blocks b = Of.did_it_need_to_hurry s rows place blocks after (planned place blocks b)
