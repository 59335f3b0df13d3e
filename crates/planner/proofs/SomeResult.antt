-- The promise of `plan` has a result for each input: the rules can be decided, and a list that passes them has rows that can be written.
-- Assumes nothing.
use Rattle.std.proofs.Common.{◌≡◌, ℕ, zero, suc, ◌+◌, ◌*◌, ◌<◌, ◌≤◌, List, [], ◌∷◌, length, get_or, sym, refl, ◌∙◌, ⊎_elim, le_refl, le_of_suc-le-suc, not-suc-le-zero, eq-or-lt_of_le, arith}
use Rattle.answers.specs.Numbers.{width, numbers_of}
use Rattle.answers.specs.declared.Row.{Row as Numbers}
use Rattle.trials.proofs.Passing.{Passed, Quiet, finding}
use Rattle.trials.proofs.Deciding.{Gives, passed_or_given}
use Rattle.fraction.specs.Fraction.{Fraction}
use Rattle.critical.specs.Reports.{Reports, Working, Positive, Plannable, FirstWithout}
use Rattle.critical.specs.Rows.{Row}
use Rattle.critical.proofs.Cover.{few_rows}
use Rattle.critical.proofs.Chain.{chain_same, behind_same, chain_critical}
use Rattle.critical.proofs.Exists.{exists_chain}
use Rattle.critical.proofs.Theorems.{room_decides, plan_or_refusal}
use Rattle.rules.specs.Offsets.{Input, offset, reports_of, fastest_of}
use Rattle.rules.specs.Rules.{short_rule, pace_rule, operations_rule, plan_rule, earlier_rules}
use Rattle.rules.proofs.Table.{decided}
use Rattle.planner.specs.Outcome.{row_at, Written, PlanOutcome}
use Rattle.planner.specs.Inside.{put_row}
use Rattle.lists.proofs.Filling.{length-map}
use Rattle.planner.proofs.Writing.{length-put, put_behind, row_other, row_put}
use Rattle.rules.proofs.Leaving.{enough_room, good_pace, working}
use Rattle.planner.proofs.Outcomes.{refused_outcome, accepts, rejects, positive}

-- ---- rows in a buffer
-- the numbers of a row
abbrev numbers : Row → Numbers
numbers r = record { first = r.first; last = r.last; start = r.start; end = r.end; operations = r.operations }

-- the buffer with the first m rows written
fill : List ℕ → ℕ → (ℕ → Row) → List ℕ
fill b zero rows = b
fill b (suc m) rows = put_row (fill b m rows) m (numbers_of (numbers (rows m)))

module _ (b : List ℕ) (rows : ℕ → Row) where
  fill_length : (m : ℕ) → width * m ≤ length b → length (fill b m rows) ≡ length b
  unfolding fill
  fill_length zero h = refl
  fill_length (suc m) h =
      let e : length (fill b m rows) ≡ length b = fill_length m (omega arith) in
      length-put (fill b m rows) m (numbers (rows m)) (omega (arith, e)) ∙ e

  fill_behind : (m : ℕ) → width * m ≤ length b → (i : ℕ) → width * m ≤ i → get_or (fill b m rows) i 0 ≡ get_or b i 0
  unfolding fill
  fill_behind zero room i h = refl
  fill_behind (suc m) room i h =
      let e : length (fill b m rows) ≡ length b = fill_length m (omega arith) in
      put_behind (fill b m rows) m (numbers (rows m)) (omega (arith, e)) i (omega arith) ∙ fill_behind m (omega arith) i (omega arith)

  fill_row : (m : ℕ) → width * m ≤ length b → (k : ℕ) → k < m → rows k ≡ row_at (fill b m rows) k
  unfolding fill
  fill_row zero h k l = absurd (not-suc-le-zero l)
  fill_row (suc m) h k l =
      let e : length (fill b m rows) ≡ length b = fill_length m (omega arith) in
      let room : width * m + width ≤ length (fill b m rows) = omega (arith, e) in
      ⊎_elim (λ (e : k ≡ m). rw e (sym (row_put (fill b m rows) m (numbers (rows m)) room)))
      (λ s. fill_row m (omega arith) k s ∙ row_other (fill b m rows) m (numbers (rows m)) room k s) (eq-or-lt_of_le (le_of_suc-le-suc l))

-- the rows of a plannable list, written
written : (ℓ : Reports) (f : Fraction) (b : List ℕ) → Working ℓ → Positive f → Plannable ℓ f → width * ℓ.count ≤ length b → (m : ℕ) × (after : List ℕ) × Written ℓ f b m after
written ℓ f b working pos plan room =
    let d = exists_chain ℓ f ((room_decides ℓ f pos).0 plan) working in
    let m : ℕ = d.0 in
    let rows : ℕ → Row = d.1 in
    let few : m ≤ ℓ.count = omega (arith, few_rows m rows (record { follows = λ k h. (d.2 k h).first; holds = λ k h. (d.2 k h).found.ordered }) m (le_refl m), d.3) in
    let room : width * m ≤ length b = omega (arith, few) in
    let same : (k : ℕ) → k < m → rows k ≡ row_at (fill b m rows) k = fill_row b rows m room in (
      m,
      fill b m rows,
      record {
        rows = chain_critical ℓ f m (row_at (fill b m rows)) (chain_same ℓ f m rows (row_at (fill b m rows)) same d.2) working pos (sym (behind_same ℓ f m rows (row_at (fill b m rows)) same m (le_refl m)) ∙ d.3);
        as_long = fill_length b rows m room;
        behind = fill_behind b rows m room;
      },
    )

-- ---- the rules, decided
module _ (x : Input) where
  abbrev ℓ : Reports
  ℓ = reports_of x

  abbrev f : Fraction
  f = fastest_of x

  Some : Type 0
  Some = (number : ℕ) × (place : ℕ) × (blocks : ℕ) × (after : List ℕ) × PlanOutcome x number place blocks after

  -- one of them is given
  some_refusal : Gives (earlier_rules x) → Some
  unfolding Some
  some_refusal g =
      (g.number, g.place, 0, x.buffer, refused_outcome ℓ f x.buffer (earlier_rules x) (plan_rule ℓ f ∷ []) g.number g.place 0 x.buffer (record { numbered = g.numbered; refused = g.refused; no_blocks = refl; untouched = refl }))

  -- none is: rule 9 is given, or there are rows
  some_plan : Passed (earlier_rules x) → Some
  unfolding Some
  some_plan p =
      let short : Quiet (short_rule (length x.arrivals) (length x.buffer)) = search finding depth 40 in
      let pace : Quiet (pace_rule x.terms) = search finding depth 40 in
      let work : Quiet (operations_rule ℓ) = search finding depth 40 in
      let room : width * ℓ.count ≤ length x.buffer =
      omega (arith, length-map (offset x.terms.reference) x.arrivals, enough_room (length x.arrivals) (length x.buffer) short) in
      let pos : Positive f = positive ℓ x.terms (good_pace pace) x.buffer in
      ⊎_elim
      (λ (plan : Plannable ℓ f). let w = written ℓ f x.buffer (working ℓ work) pos plan room in (
        0,
        0,
        w.0,
        w.1,
        accepts ℓ f x.buffer (earlier_rules x) w.0 w.1 p w.2,
      ))
      (λ (w : (i : ℕ) × FirstWithout ℓ f i). (
        9,
        w.0,
        0,
        x.buffer,
        rejects ℓ f x.buffer (earlier_rules x) w.0 p w.1,
      ))
      (plan_or_refusal ℓ f pos)

  -- There is a result for each input.
  pub some_result : (number : ℕ) × (place : ℕ) × (blocks : ℕ) × (after : List ℕ) × PlanOutcome x number place blocks after
  unfolding Some
  some_result = ⊎_elim some_plan some_refusal (passed_or_given (decided x))
