-- Rules tried one behind the other.
-- Assumes nothing.
use Prim.Native.Nat.{ℕ, ◌≤◌, ◌<◌}
use mathlib.Core.Path.{◌≡◌, refl, sym, ◌∙◌, ap, subst}
use mathlib.Core.Bool.{Bool, true, false, not, true≢false}
use mathlib.Core.List.{List, [], ◌∷◌, ◌++◌}
use mathlib.Core.Logic.{◌⊎◌, inl, inr, ⊎_elim}
use native.Mathlib.Omega.{arith}
use lib.Dec.{ltb, eqb}
use borrow.Author.Tests.{ltb-true, ltb-false, eqb-true, eqb-false, not-true, not-false}
use Rattle.std.specs.Prelude.{Option, Some, None, Result, Ok, Err, IsErr, IsErrAnd}
use Rattle.std.specs.Result.{result_from_control_flow}
use Rattle.std.proofs.Common.{Continue, Break}
use Rattle.std.proofs.lemmas.Result.{err_from_is_err_and}
use Rattle.answers.specs.Numbers.{number}
use Rattle.answers.specs.declared.Fault.{Fault}
use Rattle.answers.specs.declared.Refusal.{Refusal}
use Rattle.trials.specs.Rules.{Rule, rule, Overall, Least, Refused, Accepted, Refuses}
use Rattle.trials.specs.Tries.{Tells, FirstOf, Verdict, refuse_if, RefuseIf, refuse_at, RefuseAt, AfterIs, After}
use Rattle.trials.proofs.Passing.{Passed, both}

-- ---- lists of rules, one behind the other
pub refused_first : (ps qs : List Rule) (number place : ℕ) → Refused ps number place → Refused (ps ++ qs) number place
unfolding Refused
refused_first [] qs number place r = absurd r
refused_first (p ∷ ps) qs number place r = ⊎_elim (λ h. inl h) (λ h. inr (h.0, refused_first ps qs number place h.1)) r

pub refused_later : (ps qs : List Rule) (number place : ℕ) → Accepted ps → Refused qs number place → Refused (ps ++ qs) number place
unfolding Refused Accepted
refused_later [] qs number place a r = r
refused_later (p ∷ ps) qs number place a r = inr (a.0, refused_later ps qs number place a.1 r)

-- a refusal is handed on: the rules behind it are not tried
stop_is : (qs : List Rule) (v : Verdict) (a : Refusal) → v ≡ Err a → AfterIs v qs (Err a)
unfolding AfterIs
stop_is qs v a e = subst (λ (x : Verdict). AfterIs x qs (Err a)) (sym e) refl

pub after_stop : {v : Verdict} {qs : List Rule} {a : Refusal} → v ≡ Err a → After v qs (Err a)
after_stop {v} {qs} {a} e = record { is = stop_is qs v a e }

append_is : (ps qs : List Rule) (v w r : Verdict) → AfterIs v ps w → AfterIs w qs r → AfterIs v (ps ++ qs) r
unfolding AfterIs
append_is ps qs (Err a) w r p q = subst (λ (x : Verdict). AfterIs x qs r) p q
append_is ps qs (Ok _) (Err b) r p q =
    subst (λ (x : Verdict). AfterIs (Ok tt) (ps ++ qs) x) (sym q) (record { refused = refused_first ps qs (number b.fault) b.place p.refused })
append_is ps qs (Ok _) (Ok _) (Ok _) p q = (both ps qs (record { accepted = p }) (record { accepted = q })).accepted
append_is ps qs (Ok _) (Ok _) (Err a) p q = record { refused = refused_later ps qs (number a.fault) a.place p q.refused }

none_is : (v : Verdict) → AfterIs v [] v
unfolding AfterIs Accepted
none_is (Err a) = refl
none_is (Ok _) = tt

pub after_none : {v : Verdict} → After v [] v
after_none {v} = record { is = none_is v }

pub after_append : (ps qs : List Rule) {v w r : Verdict} → After v ps w → After w qs r → After v (ps ++ qs) r
after_append ps qs {v} {w} {r} a b = record { is = append_is ps qs v w r a.is b.is }

-- ---- what a `?` does
-- it hands a refusal on
pub handed_on : {v r : Verdict} {b : _} {e : _} {qs : List Rule} → v ≡ result_from_control_flow b → b ≡ Break e → IsErr r × IsErrAnd r (λ a. a ≡ e.0) → After v qs r
handed_on {v} {r} {b} {e} {qs} f g h =
    let p = err_from_is_err_and r h.1 in
    let k : r ≡ Err e.0 = p.1 ∙ ap Err p.2 in
    subst (λ (x : Verdict). After v qs x) (sym k) (after_stop (f ∙ ap result_from_control_flow g))

-- and goes on behind a silence
pub go_on : {v r : Verdict} {b : _} {u : Unit {0}} {qs : List Rule} → v ≡ result_from_control_flow b → b ≡ Continue u → After (Ok tt) qs r → After v qs r
go_on {v} {r} {b} {u} {qs} f g a = subst (λ (x : Verdict). After x qs r) (sym (f ∙ ap result_from_control_flow g)) a

-- ---- one rule, and those behind it
-- the verdict of a test that decides the rule
if_is : (f : Fault) (P : Type 0) (r : Verdict) (b : Bool) → r ≡ refuse_if b f → Tells P b → AfterIs (Ok tt) (rule (number f) (Overall P) ∷ []) r
unfolding AfterIs Accepted Refused
if_is f P r true e t = subst (λ (x : Verdict). AfterIs (Ok tt) (rule (number f) (Overall P) ∷ []) x) (sym e) (record { refused = inl (refl, (t.yes refl, refl)) })
if_is f P r false e t = subst (λ (x : Verdict). AfterIs (Ok tt) (rule (number f) (Overall P) ∷ []) x) (sym e) ((λ place g. t.no refl g.0), tt)

-- and of a search that finds its place
at_is : (f : Fault) (n : ℕ) (F : ℕ → Type 0) (r : Verdict) (o : Option ℕ) → r ≡ refuse_at o f → FirstOf n F o → AfterIs (Ok tt) (rule (number f) (Least n F) ∷ []) r
unfolding AfterIs Accepted Refused
at_is f n F r (Some place) e s = subst (λ (x : Verdict). AfterIs (Ok tt) (rule (number f) (Least n F) ∷ []) x) (sym e) (record { refused = inl (refl, s.found) })
at_is f n F r None e s = subst (λ (x : Verdict). AfterIs (Ok tt) (rule (number f) (Least n F) ∷ []) x) (sym e) ((λ place g. s.none place g.on_list g.at_fault), tt)

-- a rule of the whole list, by a test
pub overall_cons : {k : ℕ} {f : Fault} {P : Type 0} {qs : List Rule} {w r : Verdict} {b : Bool} → RefuseIf b f w → Tells P b → eqb (number f) k ≡ true → After w qs r → After (Ok tt) (rule k (Overall P) ∷ qs) r
overall_cons {k} {f} {P} {qs} {w} {r} {b} o t e rest =
    subst (λ (x : ℕ). After (Ok tt) (rule x (Overall P) ∷ qs) r) (eqb-true (number f) k e)
    (after_append (rule (number f) (Overall P) ∷ []) qs (record { is = if_is f P w b o.is t }) rest)

-- a rule of a report, by the search for its fault
pub least_cons : {k n : ℕ} {f : Fault} {F : ℕ → Type 0} {qs : List Rule} {w r : Verdict} {o : Option ℕ} → RefuseAt o f w → FirstOf n F o → eqb (number f) k ≡ true → After w qs r → After (Ok tt) (rule k (Least n F) ∷ qs) r
least_cons {k} {n} {f} {F} {qs} {w} {r} {o} s t e rest =
    subst (λ (x : ℕ). After (Ok tt) (rule x (Least n F) ∷ qs) r) (eqb-true (number f) k e)
    (after_append (rule (number f) (Least n F) ∷ []) qs (record { is = at_is f n F w o s.is t }) rest)

-- a search in a list that is as long
pub first_long : {m n : ℕ} {r : Option ℕ} {F : ℕ → Type 0} → FirstOf m F r → m ≡ n → FirstOf n F r
first_long {m} {n} {r} {F} f e = subst (λ (k : ℕ). FirstOf k F r) e f

-- ---- tests
pub tells_below : {a b : ℕ} → Tells (a < b) (ltb a b)
tells_below {a} {b} = record { yes = λ e. ltb-true a b e; no = λ e h. let g : b ≤ a = ltb-false a b e in omega (arith, h, g) }

pub tells_equal : {a b : ℕ} → Tells (a ≡ b) (eqb a b)
tells_equal {a} {b} = record { yes = λ e. eqb-true a b e; no = λ e h. eqb-false a b e h }

pub tells_different : {a b : ℕ} → Tells (a ≡ b → ⊥) (not (eqb a b))
tells_different {a} {b} = record { yes = λ e. eqb-false a b (not-true _ e); no = λ e h. h (eqb-true a b (not-false _ e)) }

-- the same, said otherwise
pub tells_as : {P Q : Type 0} {b : Bool} → (P → Q) → (Q → P) → Tells P b → Tells Q b
tells_as to back t = record { yes = λ e. to (t.yes e); no = λ e q. t.no e (back q) }

-- the same of numbers that are equal to those tested
pub tells_below_of : (x y a b : ℕ) → x ≡ a → y ≡ b → Tells (a < b) (ltb x y)
tells_below_of x y a b e e' = tells_as (λ (h : x < y). omega (arith, e, e', h)) (λ (h : a < b). omega (arith, e, e', h)) tells_below

pub tells_different_of : (x y a b : ℕ) → x ≡ a → y ≡ b → Tells (a ≡ b → ⊥) (not (eqb x y))
tells_different_of x y a b e e' = tells_as (λ (h : x ≡ y → ⊥) q. h (e ∙ q ∙ sym e')) (λ (h : a ≡ b → ⊥) q. h (sym e ∙ q ∙ e')) tells_different

-- what is so
pub tells_yes : {P : Type 0} → P → Tells P true
tells_yes h = record { yes = λ _. h; no = λ e. absurd (true≢false e) }

-- one of two, by a test of each
pub tells_first : {P Q : Type 0} → P → Tells (P ⊎ Q) true
tells_first h = tells_yes (inl h)

pub tells_second : {P Q : Type 0} {b : Bool} → (P → ⊥) → Tells Q b → Tells (P ⊎ Q) b
tells_second n t = record { yes = λ e. inr (t.yes e); no = λ e o. ⊎_elim n (t.no e) o }

-- what search is handed for rules tried in their order
pub ruleset trying = (overall_cons, least_cons, first_long, after_none, handed_on, go_on, tells_below, tells_equal, tells_different)

-- ---- the verdict, taken apart
silent_is : (rules : List Rule) (v : Verdict) → v ≡ Ok tt → AfterIs (Ok tt) rules v → Accepted rules
unfolding AfterIs
silent_is rules v e a = subst (λ (x : Verdict). AfterIs (Ok tt) rules x) e a

given_is : (rules : List Rule) (v : Verdict) (a : Refusal) → v ≡ Err a → AfterIs (Ok tt) rules v → Refuses rules a
unfolding AfterIs
given_is rules v a e x = subst (λ (y : Verdict). AfterIs (Ok tt) rules y) e x

-- a silence: none of the rules is given
pub passed : {rules : List Rule} {v : Verdict} → After (Ok tt) rules v → v ≡ Ok tt → Passed rules
passed {rules} {v} a e = record { accepted = silent_is rules v e a.is }

-- a refusal: the first rule that is given
pub refuses : {rules : List Rule} {v : Verdict} {a : Refusal} → After (Ok tt) rules v → v ≡ Err a → Refuses rules a
refuses {rules} {v} {a} x e = given_is rules v a e x.is

-- and the same where a `?` hands it on, as the refusal of another function
pub refuses_on : {X : Type 0} {rules : List Rule} {v : Verdict} {a : Refusal} {r : Result X Refusal} → After (Ok tt) rules v → v ≡ Err a → IsErr r × IsErrAnd r (λ e. e ≡ a) → Refuses rules a × (r ≡ Err a)
refuses_on {r = r} x e h = let p = err_from_is_err_and r h.1 in (refuses x e, p.1 ∙ ap Err p.2)

-- a test that holds
pub if_given : (b : Bool) (fault : Fault) → b ≡ true → Err (record { fault = fault; place = 0 }) ≡ refuse_if b fault
if_given b fault t = sym (subst (λ (x : Bool). refuse_if x fault ≡ Err (record { fault = fault; place = 0 })) (sym t) refl)

-- and a search that finds a place
pub at_given : (o : Option ℕ) (fault : Fault) (place : ℕ) → o ≡ Some place → Err (record { fault = fault; place = place }) ≡ refuse_at o fault
at_given o fault place t = sym (subst (λ (x : Option ℕ). refuse_at x fault ≡ Err (record { fault = fault; place = place })) (sym t) refl)
