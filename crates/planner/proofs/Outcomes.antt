-- Outcomes: a refusal stands whatever rules follow, a silence leaves it to them; rule 9 and the rows.
-- Assumes nothing.
use Rattle.std.proofs.Common.{◌≡◌, ℕ, zero, suc, ◌<◌, ◌⊎◌, List, [], ◌∷◌, ◌++◌, sym, refl, subst, inl, inr, ⊎_elim, arith}
use Rattle.std.specs.Prelude.{Option, Some, None, Ok, Err, IsErr, IsErrAnd}
use Rattle.answers.specs.Numbers.{Answer, number, number_of, place_of, blocks_of}
use Rattle.answers.specs.declared.Refusal.{Refusal}
use Rattle.answers.specs.declared.Fault.TheVariants.{NoPlan}
use Rattle.answers.proofs.Replies.{numbered}
use Rattle.trials.specs.Rules.{Rule, Refused, Accepted, Refuses}
use Rattle.trials.proofs.Passing.{Passed, both, first_part, last_part}
use Rattle.trials.specs.Tries.{Verdict, refuse_at, RefuseAt, AfterIs, After}
use Rattle.trials.proofs.Trying.{refused_first, refused_later, refuses_on}
use Rattle.trials.proofs.Numbers.{refused_by_either}
use Rattle.fraction.specs.Fraction.{Fraction, over}
use Rattle.critical.specs.Reports.{Reports, Positive, Plannable, FirstWithout}
use Rattle.critical.specs.Rows.{plan_of}
use Rattle.critical.proofs.Theorems.{room_decides, plan_or_refusal, not_both}
use Rattle.rules.specs.Offsets.{pace_of}
use Rattle.rules.specs.Rules.{plan_rule}
use Rattle.planner.specs.Outcome.{row_at, RefusedBy, Outcome, Written}
use Rattle.rules.specs.Leaves.{Paced}
use Rattle.planner.specs.Inside.{PassEnds, BlocksIn}
use Rattle.rules.specs.declared.Roll.{Roll}

module _ (ℓ : Reports) (f : Fraction) (before : List ℕ) where
  refused : (rules : List Rule) (n place : ℕ) → 0 < n → Refused rules n place → Outcome rules ℓ f before n place 0 before
  unfolding Outcome
  refused rules zero place h r = absurd (omega arith)
  refused rules (suc k) place h r = (r, refl, refl)

  -- a refusal stands, whatever rules follow
  pub hands_up : (ps qs : List Rule) {a : Refusal} → Refuses ps a → Outcome (ps ++ qs) ℓ f before (number a.fault) a.place 0 before
  hands_up ps qs {a} r = refused (ps ++ qs) (number a.fault) a.place (numbered a.fault) (refused_first ps qs (number a.fault) a.place r.refused)

  -- so does one that a `?` hands on
  pub handed_up : (ps qs : List Rule) {v : Verdict} {a : Refusal} (r : Answer) → After (Ok tt) ps v → v ≡ Err a → IsErr r × IsErrAnd r (λ e. e ≡ a) → Outcome (ps ++ qs) ℓ f before (number_of r) (place_of r) (blocks_of r) before
  handed_up ps qs {a = a} r t e h =
      let p = refuses_on {rules = ps} {r = r} t e h in
      subst (λ (x : Answer). Outcome (ps ++ qs) ℓ f before (number_of x) (place_of x) (blocks_of x) before) (sym p.1) (hands_up ps qs p.0)

  -- a silence leaves it to the rules that follow
  pub goes_on : (ps qs : List Rule) (number place blocks : ℕ) (after : List ℕ) → Passed ps → Outcome qs ℓ f before number place blocks after → Outcome (ps ++ qs) ℓ f before number place blocks after
  unfolding Outcome
  goes_on ps qs zero place blocks after p o = ((both ps qs p (record { accepted = o.0 })).accepted, o.1, o.2)
  goes_on ps qs (suc k) place blocks after p o = (refused_later ps qs (suc k) place p.accepted o.0, o.1, o.2)

  -- and so backwards: by two lists of rules it is a refusal by the first, or the first is silent and it is the outcome by the second
  pub by_either : (ps qs : List Rule) (number place blocks : ℕ) (after : List ℕ) → Outcome (ps ++ qs) ℓ f before number place blocks after → RefusedBy ps before number place blocks after ⊎ (Passed ps × Outcome qs ℓ f before number place blocks after)
  unfolding Outcome
  by_either ps qs zero place blocks after o =
      let p : Passed (ps ++ qs) = record { accepted = o.0 } in
      inr (first_part ps qs p, ((last_part ps qs p).accepted, o.1, o.2))
  by_either ps qs (suc k) place blocks after o =
      ⊎_elim (λ r. inl (record { numbered = omega arith; refused = r; no_blocks = o.1; untouched = o.2 }))
      (λ r. inr (record { accepted = r.0 }, (r.1, o.1, o.2))) (refused_by_either ps qs (suc k) place o.0)

  pub refused_outcome : (ps qs : List Rule) (number place blocks : ℕ) (after : List ℕ) → RefusedBy ps before number place blocks after → Outcome (ps ++ qs) ℓ f before number place blocks after
  unfolding Outcome
  refused_outcome ps qs zero place blocks after r = absurd (omega (arith, r.numbered))
  refused_outcome ps qs (suc k) place blocks after r = (refused_first ps qs (suc k) place r.refused, r.no_blocks, r.untouched)

  -- no rule is given
  pub plans : (rules : List Rule) (blocks : ℕ) (after : List ℕ) → Passed rules → Written ℓ f before blocks after → Outcome rules ℓ f before 0 0 blocks after
  unfolding Outcome
  plans rules blocks after p w = (p.accepted, refl, w)

  -- no rule before rule 9 is given, and the rows are those of the plan wanted: so rule 9 is not given either
  pub accepts : (form : List Rule) (blocks : ℕ) (after : List ℕ) → Passed form → Written ℓ f before blocks after → Outcome (form ++ (plan_rule ℓ f ∷ [])) ℓ f before 0 0 blocks after
  unfolding Accepted
  accepts form blocks after p w =
      goes_on form (plan_rule ℓ f ∷ []) 0 0 blocks after p
      (plans (plan_rule ℓ f ∷ []) blocks after (record { accepted = (λ place g. not_both ℓ f place (plan_of blocks (row_at after), w.rows.plan.allowed) g, tt) }) w)

  -- no rule before rule 9 is given, and it is
  pub rejects : (form : List Rule) (i : ℕ) → Passed form → FirstWithout ℓ f i → Outcome (form ++ (plan_rule ℓ f ∷ [])) ℓ f before 9 i 0 before
  unfolding Refused
  rejects form i p w = goes_on form (plan_rule ℓ f ∷ []) 9 i 0 before p (refused (plan_rule ℓ f ∷ []) 9 i (omega arith) (inl (refl, w)))

-- ---- rule 9 and the rows
-- the pass decides rule 9
nine_is : (ℓ : Reports) (f : Fraction) (r : Option ℕ) (v : Verdict) → v ≡ refuse_at r NoPlan → PassEnds ℓ f r → AfterIs (Ok tt) (plan_rule ℓ f ∷ []) v
unfolding AfterIs Accepted Refused
nine_is ℓ f (Some i) v e p = subst (λ (x : Verdict). AfterIs (Ok tt) (plan_rule ℓ f ∷ []) x) (sym e) (record { refused = inl (refl, p.stops) })
nine_is ℓ f None v e p = subst (λ (x : Verdict). AfterIs (Ok tt) (plan_rule ℓ f ∷ []) x) (sym e) ((λ i w. not_both ℓ f i p.passes w), tt)

pub nine : {ℓ : Reports} {f : Fraction} {r : Option ℕ} {v : Verdict} → PassEnds ℓ f r → RefuseAt r NoPlan v → After (Ok tt) (plan_rule ℓ f ∷ []) v
nine {ℓ} {f} {r} {v} p e = record { is = nine_is ℓ f r v e.is p }

module _ (ℓ : Reports) (terms : Roll) (paced : Paced terms) (before : List ℕ) where
  abbrev f : Fraction
  f = pace_of terms

  pub positive : Positive (pace_of terms)
  unfolding over
  positive = paced.p_some

  -- where the pass stops, rule 9 is given
  pub refuses_nine : (i : ℕ) → PassEnds ℓ (pace_of terms) (Some i) → Outcome (plan_rule ℓ (pace_of terms) ∷ []) ℓ (pace_of terms) before 9 i 0 before
  unfolding Refused
  refuses_nine i e = refused ℓ f before (plan_rule ℓ f ∷ []) 9 i (omega arith) (inl (refl, e.stops))

  -- where rule 9 is not given there is a plan, and so the rows are those of the plan wanted
  pub plans_all : (blocks : ℕ) (after : List ℕ) → Passed (plan_rule ℓ (pace_of terms) ∷ []) → BlocksIn ℓ before blocks after → Outcome (plan_rule ℓ (pace_of terms) ∷ []) ℓ (pace_of terms) before 0 0 blocks after
  unfolding Accepted
  plans_all blocks after p b =
      let plan : Plannable ℓ f = ⊎_elim (λ h. h) (λ w. absurd (p.accepted.0 w.0 w.1)) (plan_or_refusal ℓ f positive) in
      plans ℓ f before (plan_rule ℓ f ∷ []) blocks after p (record {
        rows = b.rows f positive ((room_decides ℓ f positive).0 plan);
        as_long = b.as_long;
        behind = b.rest;
      })
