-- What the program says of its input (01, "The roll").
-- Assumes nothing.
use Rattle.std.specs.Prelude.{ℕ, ◌<◌, ◌≡◌, List, ◌∷◌, ◌++◌, length}
use Rattle.trials.specs.Rules.{Rule, rule, Overall}
use Rattle.rules.specs.Offsets.{Input, reports_of, fastest_of}
use Rattle.planner.specs.Outcome.{Outcome}
use Rattle.roll.specs.Format.{input_of, roll_rules}
use Rattle.text.specs.Text.{first_line, TextIs}

-- The program adds 14: input longer than 65,536 bytes.
abbrev pub long_rule : List ℕ → Rule
long_rule s = rule 14 (Overall (65536 < length s))

-- All the rules, 14 before all others.
abbrev pub program_rules : List ℕ → Input → List Rule
program_rules s x = long_rule s ∷ roll_rules s x

-- The outcome of an input, by all the rules.
abbrev pub ProgramOutcome : List ℕ → List ℕ → ℕ → ℕ → ℕ → List ℕ → Type 0
ProgramOutcome s buffer number place blocks after =
    let x = input_of s buffer in Outcome (program_rules s x) (reports_of x) (fastest_of x) buffer number place blocks after

-- What is said: the text of the outcome.
pub record Says (s buffer out : List ℕ) (r : ℕ) (after text : List ℕ) : Type 0 where
  pub number : ℕ
  pub place : ℕ
  pub blocks : ℕ
  pub outcome : ProgramOutcome s buffer number place blocks after
  pub said : TextIs number place blocks after out r text

-- Text begins with the line `plan`, number, place, block count.
pub record Begins (text : List ℕ) (number place blocks : ℕ) : Type 0 where
  pub rest : List ℕ
  pub is : text ≡ first_line number place blocks ++ rest
