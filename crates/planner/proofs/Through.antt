-- The pass in whole numbers: what `pass::first_without` keeps is Q times the finish of the plan at the fastest pace.
-- Assumes nothing.
use Rattle.std.proofs.Common.{◌≡◌, ℕ, zero, suc, ◌+◌, ◌*◌, ◌<◌, ◌≤◌, max, refl, ap, ◌∙◌, subst, not-suc-le-zero, lt-suc_self, mul-le-mul, add-one, arith}
use Rattle.fraction.specs.Fraction.{over}
use Rattle.fraction.proofs.Scale.{At, at_whole, at_over, at_le, at_lt}
use Rattle.critical.specs.Reports.{Reports, Positive, finish, Plannable, FirstWithout, steady}
use Rattle.critical.proofs.Numbers.{starts, ends}
use Rattle.critical.proofs.Scaled.{arrivals, at_finish}
use Rattle.critical.proofs.Room.{TimelyTo, timely_more, timely_plan, stops_first}
use Rattle.rules.specs.declared.Report.{Report}
use Rattle.planner.specs.Inside.{reports_in, report_in}
use Rattle.planner.specs.declared.list.FairList.{FairList}

-- Q times the finish of the report before i, nil before the first
unfoldable pub through : Reports → ℕ → ℕ → ℕ → ℕ
through ℓ P Q zero = 0
through ℓ P Q (suc i) = ends (arrivals ℓ Q) ℓ.operations (λ _. P) i

module _ (ℓ : Reports) (P Q : ℕ) (posP : 1 ≤ P) (posQ : 1 ≤ Q) where
  pub through_more : (i : ℕ) → max (Q * ℓ.arrival i) (through ℓ P Q i) + ℓ.operations i * P ≡ through ℓ P Q (i + 1)
  unfolding through starts
  through_more i = rw (add-one i) (next i)
    where
      next : (i : ℕ) → max (Q * ℓ.arrival i) (through ℓ P Q i) + ℓ.operations i * P ≡ through ℓ P Q (suc i)
      next zero = omega arith
      next (suc i) = refl

  -- one report more, from what the code computes
  pub through_step : (i done r : ℕ) → done ≡ through ℓ P Q i → r ≡ max (Q * ℓ.arrival i) done + ℓ.operations i * P → r ≡ through ℓ P Q (i + 1)
  through_step i done r e f = f ∙ ap (λ (d : ℕ). max (Q * ℓ.arrival i) d + ℓ.operations i * P) e ∙ through_more i

  pub at_through : (i : ℕ) → At Q (finish ℓ (steady (over P Q)) i) (through ℓ P Q (i + 1))
  unfolding through
  at_through i = rw (add-one i) (at_finish ℓ posQ (λ j h. at_over Q P Q P posQ refl) i (lt-suc_self i))

  positive : Positive (over P Q)
  unfolding over
  positive = posP

  pub stops_at : (i : ℕ) → i < ℓ.count → TimelyTo ℓ (over P Q) i → Q * ℓ.deadline i < through ℓ P Q (i + 1) → FirstWithout ℓ (over P Q) i
  stops_at i h k l = stops_first ℓ (over P Q) positive i h k (at_lt (at_whole Q (ℓ.deadline i)) (at_through i) l)

  pub timely_on : (i : ℕ) → TimelyTo ℓ (over P Q) i → through ℓ P Q (i + 1) ≤ Q * ℓ.deadline i → TimelyTo ℓ (over P Q) (i + 1)
  timely_on i k l = rw (add-one i) (timely_more ℓ (over P Q) i k (at_le (at_through i) (at_whole Q (ℓ.deadline i)) posQ l))

  pub passes : TimelyTo ℓ (over P Q) ℓ.count → Plannable ℓ (over P Q)
  passes k = timely_plan ℓ (over P Q) positive ℓ.count k

pub through_zero : (ℓ : Reports) (P Q : ℕ) → ◌≡◌ {A = ℕ} 0 (through ℓ P Q 0)
unfolding through
through_zero ℓ P Q = refl

-- ---- the pass over a list
-- how large it gets
pub through_bound : (a w p q d i : ℕ) → a ≤ 2147483647 → q ≤ 65535 → w ≤ 65535 → p ≤ 65535 → d ≤ 140735340806145 + i * 4294836225 → max (q * a) d + w * p ≤ 140735340806145 + (i + 1) * 4294836225
through_bound a w p q d i ha hq hw hp hd = omega (arith, mul-le-mul hq ha, mul-le-mul hw hp)

-- before report i: done is Q times the finish of the report before at the fastest pace, it is small, and the pass holds at every report passed
pub record Passing (fair : FairList) (i done : ℕ) : Type 0 where
  pub finished : done ≡ through (reports_in fair.list) fair.list.terms.p fair.list.terms.q i
  pub small : done ≤ 140735340806145 + i * 4294836225
  pub timely : TimelyTo (reports_in fair.list) (over fair.list.terms.p fair.list.terms.q) i

module _ (fair : FairList) where
  abbrev ℓ : Reports
  ℓ = reports_in fair.list

  abbrev P : ℕ
  P = fair.list.terms.p

  abbrev Q : ℕ
  Q = fair.list.terms.q

  pub pass_begins : Passing fair 0 0
  pass_begins = record { finished = through_zero ℓ P Q; small = omega arith; timely = λ i h. absurd (not-suc-le-zero h) }

  -- one report more, from what the code computes: its finish and when it is due
  module _ {i done finish due : ℕ} {report : Report} (so_far : Passing fair i done) (is : report ≡ report_in fair.list i) (finish_is : finish ≡ max (Q * report.arrival) done + report.operations * P) (due_is : due ≡ Q * report.deadline) where
    computed : finish ≡ max (Q * ℓ.arrival i) done + ℓ.operations i * P
    computed = finish_is ∙ ap (λ (r : Report). max (Q * r.arrival) done + r.operations * P) is

    next : finish ≡ through ℓ P Q (i + 1)
    next = through_step ℓ P Q fair.paced.p_some fair.paced.q_some i done finish so_far.finished computed

    late : due ≡ Q * ℓ.deadline i
    late = due_is ∙ ap (λ (r : Report). Q * r.deadline) is

    pub pass_stops : i < ℓ.count → due < finish → FirstWithout ℓ (over P Q) i
    pass_stops h l = stops_at ℓ P Q fair.paced.p_some fair.paced.q_some i h so_far.timely (omega (arith, next, late, l))

    pub pass_goes_on : i < ℓ.count → finish ≤ due → Passing fair (i + 1) finish
    pass_goes_on h l = record {
      finished = next;
      small = omega (arith, computed, through_bound (ℓ.arrival i) (ℓ.operations i) P Q done i (fair.fair.arrive i h) fair.paced.q_most (fair.fair.work i h) fair.paced.p_most so_far.small);
      timely = timely_on ℓ P Q fair.paced.p_some fair.paced.q_some i so_far.timely (omega (arith, next, late, l));
    }

  pub pass_ends : {i done : ℕ} → Passing fair i done → i ≡ ℓ.count → Plannable ℓ (over P Q)
  pass_ends so_far e = passes ℓ P Q fair.paced.p_some fair.paced.q_some (subst (TimelyTo ℓ (over P Q)) e so_far.timely)
