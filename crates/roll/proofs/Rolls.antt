-- The outcome of a roll: of a trailer that is refused, and of the list in it.
-- Assumes nothing.
use Prim.Native.Nat.{ℕ, ◌+◌, ◌*◌, ◌-◌, ◌≤◌}
use mathlib.Core.Path.{◌≡◌, sym, ◌∙◌, ap, subst}
use mathlib.Core.List.{List}
use native.Mathlib.Omega.{arith}
use lib.ListN.{length, drop, length-drop}
use lib.Seq.{length-take-le}
use Rattle.std.specs.Prelude.{Option, Ok, Err, IsErr, IsErrAnd}
use Rattle.std.proofs.lemmas.Result.{err_from_is_err_and}
use Rattle.answers.specs.Numbers.{Answer, number_of, place_of, blocks_of}
use Rattle.answers.specs.declared.Refusal.{Refusal}
use Rattle.trials.specs.Rules.{Accepted, Refuses}
use Rattle.trials.specs.Tries.{Verdict, After}
use Rattle.trials.proofs.Passing.{Passed, Quiet, finding}
use Rattle.rules.specs.Offsets.{Input, reports_of, fastest_of}
use Rattle.rules.specs.Rules.{many_rule, count_rules, overall_rules, report_rules, plan_rules}
use Rattle.planner.specs.Outcome.{PlanOutcome}
use Rattle.rules.specs.declared.Roll.{Roll}
use Rattle.fraction.specs.declared.Pace.{Pace}
use Rattle.rules.proofs.Leaving.{few_reports}
use Rattle.planner.proofs.Outcomes.{hands_up, handed_up, goes_on}
use Rattle.roll.specs.Format.{u32_at, count_of, terms_of, floor_of, file_rules, records_at, records_of, column_in, input_in, input_of, RollOutcome}
use Rattle.roll.specs.Answers.{EndingIs}
use Rattle.roll.specs.declared.Trailer.{Trailer}
use Rattle.roll.specs.declared.Ending.{Ending}
use Rattle.roll.proofs.FileRules.{file_is}
use Rattle.lists.proofs.Filling.{length-listed}

-- a column has a number for each record
pub column_long : (part : List ℕ) (count at : ℕ) → length (column_in part count at) ≡ count
column_long part count at = length-listed count (λ i. u32_at part (12 * i + at))

module _ (s buffer : List ℕ) where
  abbrev x : Input
  x = input_of s buffer

  -- ---- a trailer that is refused
  pub refused_roll : {a : Refusal} (r : Answer) → Refuses (file_rules s) a → IsErr r × IsErrAnd r (λ e. e ≡ a) → RollOutcome s buffer (number_of r) (place_of r) (blocks_of r) buffer
  refused_roll r h t =
      let p = err_from_is_err_and r t.1 in
      subst (λ (y : Answer). RollOutcome s buffer (number_of y) (place_of y) (blocks_of y) buffer) (sym (p.1 ∙ ap Err p.2))
      (hands_up (reports_of x) (fastest_of x) buffer (file_rules s) (plan_rules x) h)

  -- ---- a trailer that is there
  module _ (e : Ending) (a : Accepted (file_rules s)) (g : EndingIs s e) where
    passed : Passed (file_rules s)
    passed = record { accepted = a }

    abbrev t : Trailer
    t = e.trailer

    -- the rules of the whole list, tried of the trailer's numbers
    pub counted : {v r : Verdict} → After v (count_rules e.trailer.count e.trailer.count e.trailer.count e.trailer.terms e.floor (length buffer)) r → After v (overall_rules x) r
    counted {v} {r} h =
        let c : (at : ℕ) → t.count ≡ length (column_in (records_of s) (count_of s) at) = λ at. g.trailer_is.count_is ∙ sym (column_long (records_of s) (count_of s) at) in
        subst (λ (a : ℕ). After v (count_rules a (length x.deadlines) (length x.operations) x.terms x.floor (length buffer)) r) (c 0)
        (subst (λ (d : ℕ). After v (count_rules t.count d (length x.operations) x.terms x.floor (length buffer)) r) (c 4)
        (subst (λ (o : ℕ). After v (count_rules t.count t.count o x.terms x.floor (length buffer)) r) (c 8)
        (subst (λ (z : Roll). After v (count_rules t.count t.count t.count z x.floor (length buffer)) r) g.trailer_is.terms_is
        (subst (λ (f : Option Pace). After v (count_rules t.count t.count t.count t.terms f (length buffer)) r) g.floor_is h))))

    -- one of them is given
    pub refused_list : {v : Verdict} {b : Refusal} (r : Answer) → After (Ok tt) (overall_rules x) v → v ≡ Err b → IsErr r × IsErrAnd r (λ e. e ≡ b) → RollOutcome s buffer (number_of r) (place_of r) (blocks_of r) buffer
    refused_list r t e h =
        goes_on (reports_of x) (fastest_of x) buffer (file_rules s) (plan_rules x) (number_of r) (place_of r) (blocks_of r) buffer passed
        (handed_up (reports_of x) (fastest_of x) buffer (overall_rules x) (report_rules (reports_of x) (fastest_of x)) r t e h)

    -- none is: there are few enough records
    pub few_records : Passed (overall_rules x) → e.trailer.count ≤ 1024
    few_records p =
        let many : Quiet (many_rule (length x.arrivals)) = search finding depth 40 in
        omega (arith, few_reports many, column_long (records_of s) (count_of s) 0, g.trailer_is.count_is)

    -- its part is as long as its records
    pub part_long : (part : List ℕ) → part ≡ records_of s → 12 * e.trailer.count ≤ length part
    part_long part p =
        let f = file_is s passed in
        let rest = drop (records_at s) s in
        let d : length rest ≡ length s - records_at s = length-drop (records_at s) s in
        let l : length (records_of s) ≡ 12 * count_of s = length-take-le (12 * count_of s) rest (omega (arith, d, f.back_is, f.back_in)) in
        let same : length part ≡ length (records_of s) = ap length p in
        omega (arith, same, l, g.trailer_is.count_is)

    -- and the list planned is the one in the roll
    pub planned_roll : (part : List ℕ) (number place blocks : ℕ) (after : List ℕ) → part ≡ records_of s → PlanOutcome (input_in part e.trailer.count e.trailer.terms e.floor buffer) number place blocks after → RollOutcome s buffer number place blocks after
    planned_roll part number place blocks after p o =
        goes_on (reports_of x) (fastest_of x) buffer (file_rules s) (plan_rules x) number place blocks after passed
        (subst (λ (a : List ℕ). PlanOutcome (input_in a (count_of s) (terms_of s) (floor_of s) buffer) number place blocks after) p
        (subst (λ (a : ℕ). PlanOutcome (input_in part a (terms_of s) (floor_of s) buffer) number place blocks after) g.trailer_is.count_is
        (subst (λ (a : Roll). PlanOutcome (input_in part t.count a (floor_of s) buffer) number place blocks after) g.trailer_is.terms_is
        (subst (λ (a : Option Pace). PlanOutcome (input_in part t.count t.terms a buffer) number place blocks after) g.floor_is o))))

-- ---- lists that are the columns of a part
pub planned_columns :
    (part xs ys ws : List ℕ) (count k : ℕ) (terms : Roll) (floor : Option Pace) (buffer : List ℕ) (number place blocks : ℕ) (after : List ℕ) → k ≡ count →
    xs ≡ column_in part k 0 → ys ≡ column_in part k 4 → ws ≡ column_in part k 8 →
    PlanOutcome (record { arrivals = xs; deadlines = ys; operations = ws; terms = terms; floor = floor; buffer = buffer }) number place blocks after →
    PlanOutcome (input_in part count terms floor buffer) number place blocks after
planned_columns part xs ys ws count k terms floor buffer number place blocks after c e e' e'' o =
    subst (λ (n : ℕ). PlanOutcome (input_in part n terms floor buffer) number place blocks after) c
    (subst (λ (a : List ℕ). PlanOutcome (record { arrivals = a; deadlines = column_in part k 4; operations = column_in part k 8; terms = terms; floor = floor; buffer = buffer }) number place blocks after) e
    (subst (λ (a : List ℕ). PlanOutcome (record { arrivals = xs; deadlines = a; operations = column_in part k 8; terms = terms; floor = floor; buffer = buffer }) number place blocks after) e'
    (subst (λ (a : List ℕ). PlanOutcome (record { arrivals = xs; deadlines = ys; operations = a; terms = terms; floor = floor; buffer = buffer }) number place blocks after) e'' o)))
