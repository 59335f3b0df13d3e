-- 01's table as a list of rules: each is given with one place only, those before the last can be decided, and what they leave of an input.
-- Assumes nothing.
use Prim.Native.Nat.{ℕ}
use mathlib.Core.Path.{◌≡◌}
use mathlib.Core.List.{List, ◌∷◌}
use Rattle.trials.specs.Rules.{Rule}
use Rattle.trials.specs.Tries.{Verdict, After}
use Rattle.trials.proofs.Passing.{Passed, Quiet, finding}
use Rattle.trials.proofs.Single.{Single, Soles, one_after, singly}
use Rattle.trials.proofs.Deciding.{Decides, deciding}
use Rattle.fraction.specs.Fraction.{Fraction}
use Rattle.critical.specs.Reports.{Reports, Working}
use Rattle.critical.proofs.Theorems.{one_place}
use Rattle.rules.specs.declared.Roll.{Roll}
use Rattle.std.specs.Prelude.{Option}
use Rattle.fraction.specs.declared.Pace.{Pace}
use Rattle.rules.specs.Offsets.{Input, reports_of}
use Rattle.rules.specs.Rules.{count_rules, operations_rule, plan_rule, earlier_rules, plan_rules}
use Rattle.rules.proofs.Leaving.{working}
use Rattle.rules.proofs.Floors.{dec_floor, dec_slower}

-- rule 9 is given with one place, as the others are
pub one_plan_rule : {ℓ : Reports} {f : Fraction} {qs : List Rule} → Soles qs → Soles (plan_rule ℓ f ∷ qs)
unfolding Single
one_plan_rule {ℓ} {f} s = record { single = (one_place ℓ f, s.single) }

pub single_rules : (x : Input) → Soles (plan_rules x)
single_rules x = search (singly, one_plan_rule) depth 40

-- The promise of `count_rules` allows one verdict; so it does behind any verdict so far.
pub one_count_verdict :
    (so_far : Verdict) (arrivals deadlines operations : ℕ) (terms : Roll) (floor : Option Pace) (room : ℕ) (r s : Verdict) →
    After so_far (count_rules arrivals deadlines operations terms floor room) r → After so_far (count_rules arrivals deadlines operations terms floor room) s → r ≡ s
one_count_verdict so_far arrivals deadlines operations terms floor room r s = one_after so_far r s (search singly depth 40)

-- the rules before the last can be decided
unfoldable pub decided : (x : Input) → Decides (earlier_rules x)
decided x = search (deciding, dec_floor, dec_slower) depth 40

-- an accepted list has reports with something to do
pub works : (x : Input) → Passed (plan_rules x) → Working (reports_of x)
works x p = let work : Quiet (operations_rule (reports_of x)) = search finding depth 40 in working (reports_of x) work
