-- A list of rules gives one refusal at most; and the searches and tests that rules are decided by have one result each.
-- Assumes nothing.
use Prim.Native.Nat.{ℕ}
use mathlib.Core.Path.{◌≡◌, refl, sym, ◌∙◌, ap}
use mathlib.Core.Bool.{Bool, true, false}
use mathlib.Core.List.{List, [], ◌∷◌}
use mathlib.Core.Logic.{inl, inr}
use native.Mathlib.Omega.{arith}
use native.Mathlib.Decide.{dec_lt}
use Rattle.trials.specs.Rules.{Rule, rule, Overall, Least, Refused, Accepted, Refuses}
use Rattle.trials.specs.Tries.{Tells, FirstOf, Verdict, RefuseIf, RefuseAt, AfterIs, After}
use Rattle.std.specs.Prelude.{Option, Some, None, Ok, Err}
use Rattle.answers.specs.Numbers.{number}
use Rattle.answers.specs.declared.Fault.{Fault}
use Rattle.answers.specs.declared.Refusal.{Refusal}
use Rattle.answers.proofs.Replies.{same_refusal}

-- each rule of a list is given with one place only
unfoldable pub Single : List Rule → Type 0
Single [] = Unit {0}
Single (r ∷ rs) = ((p q : ℕ) → r.given p → r.given q → p ≡ q) × Single rs

pub one_refusal : (rs : List Rule) → Single rs → (k p k' p' : ℕ) → Refused rs k p → Refused rs k' p' → (k ≡ k') × (p ≡ p')
unfolding Refused Single
one_refusal [] s k p k' p' a b = absurd a
one_refusal (r ∷ rs) s k p k' p' (inl a) (inl b) = (a.0 ∙ sym b.0, s.0 p p' a.1 b.1)
one_refusal (r ∷ rs) s k p k' p' (inl a) (inr b) = absurd (b.0 p a.1)
one_refusal (r ∷ rs) s k p k' p' (inr a) (inl b) = absurd (a.0 p' b.1)
one_refusal (r ∷ rs) s k p k' p' (inr a) (inr b) = one_refusal rs s.1 k p k' p' a.1 b.1

-- what is accepted is not refused
pub not_refused : (rs : List Rule) → Accepted rs → (k p : ℕ) → Refused rs k p → ⊥
unfolding Refused Accepted
not_refused [] a k p b = b
not_refused (r ∷ rs) a k p (inl b) = a.0 p b.1
not_refused (r ∷ rs) a k p (inr b) = not_refused rs a.1 k p b.1

-- ---- rules of either kind are given with one place: search singly
pub record Soles (rules : List Rule) : Type 0 where
  pub single : Single rules

pub one_overall : {number : ℕ} {P : Type 0} {qs : List Rule} → Soles qs → Soles (rule number (Overall P) ∷ qs)
unfolding Single
one_overall s = record { single = (λ p q a b. a.1 ∙ sym b.1, s.single) }

least_once : (n : ℕ) (F : ℕ → Type 0) (p q : ℕ) → Least n F p → Least n F q → p ≡ q
least_once n F p q a b =
    elim (dec_lt p q) [
      | yes h ↦ absurd (b.least p h a.at_fault)
      | no h ↦ elim (dec_lt q p) [ yes l ↦ absurd (a.least q l b.at_fault) | no l ↦ omega arith ]
    ]

pub one_least : {number n : ℕ} {F : ℕ → Type 0} {qs : List Rule} → Soles qs → Soles (rule number (Least n F) ∷ qs)
unfolding Single
one_least {number} {n} {F} s = record { single = (least_once n F, s.single) }

pub none_left : Soles []
unfolding Single
none_left = record { single = tt }

pub ruleset singly = (one_overall, one_least, none_left)

-- ---- one result for each function
-- The promise of `first_outside`, `first_above` and `first_fall` allows one place, or none.
pub one_first : (n : ℕ) (F : ℕ → Type 0) (r s : Option ℕ) → FirstOf n F r → FirstOf n F s → r ≡ s
one_first n F None None a b = refl
one_first n F None (Some q) a b = absurd (a.none q b.found.on_list b.found.at_fault)
one_first n F (Some p) None a b = absurd (b.none p a.found.on_list a.found.at_fault)
one_first n F (Some p) (Some q) a b = ap Some (least_once n F p q a.found b.found)

-- The promise of `outside` allows one answer.
pub one_test : (P : Type 0) (a b : Bool) → Tells P a → Tells P b → a ≡ b
one_test P true true s t = refl
one_test P true false s t = absurd (t.no refl (s.yes refl))
one_test P false true s t = absurd (s.no refl (t.yes refl))
one_test P false false s t = refl

-- one refusal
pub one_refuses : {rules : List Rule} {a b : Refusal} → Soles rules → Refuses rules a → Refuses rules b → a ≡ b
one_refuses {rules} {a} {b} s v w =
    let e = one_refusal rules s.single (number a.fault) a.place (number b.fault) b.place v.refused w.refused in same_refusal e.0 e.1

-- The promise of a group of rules allows one verdict.
pub one_after : {rules : List Rule} (v r s : Verdict) → Soles rules → After v rules r → After v rules s → r ≡ s
unfolding AfterIs
one_after (Err a) r s single p q = p.is ∙ sym q.is
one_after (Ok _) (Ok _) (Ok _) single p q = refl
one_after {rules} (Ok _) (Ok _) (Err b) single p q = absurd (not_refused rules p.is (number b.fault) b.place q.is.refused)
one_after {rules} (Ok _) (Err a) (Ok _) single p q = absurd (not_refused rules q.is (number a.fault) a.place p.is.refused)
one_after (Ok _) (Err a) (Err b) single p q = ap Err (one_refuses single p.is q.is)

-- The promises of `refuse_if` and `refuse_at` allow one verdict.
pub one_verdict : (b : Bool) (f : Fault) (r s : Verdict) → RefuseIf b f r → RefuseIf b f s → r ≡ s
one_verdict b f r s p q = p.is ∙ sym q.is

pub one_verdict_at : (o : Option ℕ) (f : Fault) (r s : Verdict) → RefuseAt o f r → RefuseAt o f s → r ≡ s
one_verdict_at o f r s p q = p.is ∙ sym q.is
