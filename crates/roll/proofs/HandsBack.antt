-- The numbers that the reader hands back, by the trailer's answer.
-- Assumes nothing.
use Prim.Native.Nat.{ℕ}
use mathlib.Core.Path.{◌≡◌, sym, ap, ◌∙◌}
use mathlib.Core.List.{List}
use Rattle.std.specs.Prelude.{Option, None}
use Rattle.fraction.specs.declared.Pace.{Pace}
use Rattle.answers.specs.Numbers.{number}
use Rattle.answers.specs.declared.Refusal.{Refusal}
use Rattle.trials.specs.Rules.{Accepted, Refuses}
use Rattle.trials.proofs.Single.{one_refusal, not_refused}
use Rattle.roll.specs.Format.{file_rules}
use Rattle.roll.specs.Answers.{floor_numbers, NumbersRead, NumbersIs, numbers_refused}
use Rattle.roll.specs.declared.Numbers.{Numbers}
use Rattle.roll.proofs.OneResult.{single_file}

pub numbers_read : {s : List ℕ} {n : Numbers} → Accepted (file_rules s) → NumbersRead s n → NumbersIs s n
numbers_read {s} a r = record { accepted = λ _. r; refused = λ number place q. absurd (not_refused (file_rules s) a number place q) }

pub refused_numbers : {s : List ℕ} {a : Refusal} {n : Numbers} → Refuses (file_rules s) a → n ≡ numbers_refused (number a.fault) → NumbersIs s n
refused_numbers {s} {a} r e = record {
  accepted = λ q. absurd (not_refused (file_rules s) q (number a.fault) a.place r.refused);
  refused = λ n place q. e ∙ ap (λ (k : ℕ). numbers_refused k) (one_refusal (file_rules s) (single_file s).single (number a.fault) a.place n place r.refused q).0;
}

-- a floor that is absent
pub no_floor : (floor : Option Pace) → floor ≡ None → floor_numbers None ≡ floor_numbers floor
no_floor floor e = ap floor_numbers (sym e)
