-- The refusals and their order (01's table, and 02's 16 and 17 for a floor). What a rule is, and that the first that is given refuses, is trials/specs/Rules.antt.
-- Assumes nothing.
use Rattle.std.specs.Prelude.{ℕ, ◌*◌, ◌<◌, ◌≡◌, List, [], ◌∷◌, ◌++◌, ◌⊎◌, length, Option, None, Some}
use Rattle.answers.specs.Numbers.{width}
use Rattle.trials.specs.Rules.{Rule, rule, Overall, Least, Outside, Falls}
use Rattle.fraction.specs.Fraction.{Fraction, ◌≺◌, over}
use Rattle.critical.specs.Reports.{Reports, FirstWithout}
use Rattle.rules.specs.Offsets.{Input, pace_of, reports_of, fastest_of}
use Rattle.rules.specs.declared.Roll.{Roll}
use Rattle.fraction.specs.declared.Pace.{Pace}

-- ---- rules of the whole list: of how long the lists and the row buffer are, of the terms, and of the floor
-- 1: the three lists differ in length.
abbrev pub lengths_rule : ℕ → ℕ → ℕ → Rule
lengths_rule arrivals deadlines operations = rule 1 (Overall ((arrivals ≡ deadlines → ⊥) ⊎ (arrivals ≡ operations → ⊥)))

-- 2: more than 1,024 reports.
abbrev pub many_rule : ℕ → Rule
many_rule reports = rule 2 (Overall (1024 < reports))

-- 3: the row buffer is shorter than a row's width times the reports.
abbrev pub short_rule : ℕ → ℕ → Rule
short_rule reports room = rule 3 (Overall (room < width * reports))

-- The upper or the lower number of a pace is outside 1 to 65,535.
abbrev pub BadPace : ℕ → ℕ → Type 0
BadPace upper lower = Outside 1 65535 upper ⊎ Outside 1 65535 lower

-- 4: P or Q outside 1 to 65,535.
abbrev pub pace_rule : Roll → Rule
pace_rule terms = rule 4 (Overall (BadPace terms.p terms.q))

-- Something is so of R and T: never where the floor is absent.
unfoldable pub OfFloor : Option Pace → (ℕ → ℕ → Type 0) → Type 0
OfFloor None P = ⊥
OfFloor (Some pace) P = P pace.ticks pace.operations

-- 16: R or T outside 1 to 65,535.
abbrev pub floor_rule : Option Pace → Rule
floor_rule floor = rule 16 (Overall (OfFloor floor (λ r t. BadPace r t)))

-- 17: R/T below P/Q.
abbrev pub below_rule : Option Pace → Roll → Rule
below_rule floor terms = rule 17 (Overall (OfFloor floor (λ r t. over r t ≺ pace_of terms)))

-- In their order.
abbrev pub count_rules : ℕ → ℕ → ℕ → Roll → Option Pace → ℕ → List Rule
count_rules arrivals deadlines operations terms floor room =
    lengths_rule arrivals deadlines operations
    ∷ many_rule arrivals
    ∷ short_rule arrivals room
    ∷ pace_rule terms
    ∷ floor_rule floor
    ∷ below_rule floor terms
    ∷ []

-- ---- rules of the reports
-- 5: operations 0 or above 65,535.
abbrev pub operations_rule : Reports → Rule
operations_rule ℓ = rule 5 (Least ℓ.count (λ i. Outside 1 65535 (ℓ.operations i)))

-- 6: arrival offset above 2,147,483,647.
abbrev pub arrival_rule : Reports → Rule
arrival_rule ℓ = rule 6 (Least ℓ.count (λ i. 2147483647 < ℓ.arrival i))

-- 7: deadline offset above 2,147,483,647.
abbrev pub deadline_rule : Reports → Rule
deadline_rule ℓ = rule 7 (Least ℓ.count (λ i. 2147483647 < ℓ.deadline i))

-- 8: arrival offset below that of the report before.
abbrev pub order_rule : Reports → Rule
order_rule ℓ = rule 8 (Least ℓ.count (Falls ℓ.arrival))

-- In their order.
abbrev pub form_rules : Reports → List Rule
form_rules ℓ =
    operations_rule ℓ
    ∷ arrival_rule ℓ
    ∷ deadline_rule ℓ
    ∷ order_rule ℓ
    ∷ []

-- 9: no allowed plan.
abbrev pub plan_rule : Reports → Fraction → Rule
plan_rule ℓ fastest = rule 9 (FirstWithout ℓ fastest)

-- The rules that speak of reports: those of form, and then the last.
abbrev pub report_rules : Reports → Fraction → List Rule
report_rules ℓ fastest = form_rules ℓ ++ (plan_rule ℓ fastest ∷ [])

-- ---- all of them, of an input
abbrev pub overall_rules : Input → List Rule
overall_rules x = count_rules (length x.arrivals) (length x.deadlines) (length x.operations) x.terms x.floor (length x.buffer)

-- All of them but the last, rule 9.
abbrev pub earlier_rules : Input → List Rule
earlier_rules x = overall_rules x ++ form_rules (reports_of x)

abbrev pub plan_rules : Input → List Rule
plan_rules x = overall_rules x ++ report_rules (reports_of x) (fastest_of x)
