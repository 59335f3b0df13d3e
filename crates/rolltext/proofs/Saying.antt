-- The program's outcome: rule 14 before the others.
-- Assumes nothing.
use Prim.Native.Nat.{ℕ, ◌≤◌, ◌<◌}
use mathlib.Core.Path.{refl}
use mathlib.Core.List.{List, [], ◌∷◌}
use mathlib.Core.Logic.{inl}
use native.Mathlib.Omega.{arith}
use lib.Dec.{ltb}
use lib.ListN.{length}
use Rattle.trials.specs.Rules.{Refused}
use Rattle.std.specs.Prelude.{Ok}
use Rattle.answers.specs.declared.Fault.TheVariants.{TooLong}
use Rattle.trials.specs.Tries.{Verdict, RefuseIf, After}
use Rattle.trials.proofs.Trying.{overall_cons, tells_below, after_none}
use Rattle.trials.proofs.Passing.{Quiet, more, none}
use Rattle.rules.specs.Offsets.{reports_of, fastest_of}
use Rattle.planner.proofs.Outcomes.{refused_outcome, goes_on}
use Rattle.roll.specs.Format.{input_of, roll_rules, RollOutcome}
use Rattle.rolltext.specs.Program.{long_rule, ProgramOutcome}

-- rule 14, tried
pub tried : (s : List ℕ) {v : Verdict} → RefuseIf (ltb 65536 (length s)) TooLong v → After (Ok tt) (long_rule s ∷ []) v
tried s r = overall_cons r tells_below refl after_none

module _ (s buffer : List ℕ) where
  pub too_long : 65536 < length s → ProgramOutcome s buffer 14 0 0 buffer
  unfolding Refused
  too_long h =
      let x = input_of s buffer in
      refused_outcome (reports_of x) (fastest_of x) buffer (long_rule s ∷ []) (roll_rules s x) 14 0 0 buffer (record { numbered = omega arith; refused = inl (refl, (h, refl)); no_blocks = refl; untouched = refl })

  pub short_enough : (number place blocks : ℕ) (after : List ℕ) → length s ≤ 65536 → RollOutcome s buffer number place blocks after → ProgramOutcome s buffer number place blocks after
  short_enough number place blocks after h o =
      let x = input_of s buffer in
      let long : Quiet (long_rule s) = record { silent = λ p g. omega (arith, h, g.0) } in
      goes_on (reports_of x) (fastest_of x) buffer (long_rule s ∷ []) (roll_rules s x) number place blocks after (more long none) o
