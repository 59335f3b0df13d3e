-- Rules of a tool's own, whose refusals are of its own type and may have any number: what `or_if` gives of them, one behind the other, and behind rules that give a Refusal.
-- Assumes nothing.
use Prim.Native.Nat.{ℕ, ◌<◌}
use mathlib.Core.Path.{◌≡◌, refl, sym, ◌∙◌, ap, subst}
use mathlib.Core.Bool.{Bool, true, false}
use mathlib.Core.List.{List, [], ◌∷◌, ◌++◌}
use mathlib.Core.Logic.{inl}
use Rattle.std.specs.Prelude.{Result, Ok, Err}
use Rattle.std.specs.Result.{result_and}
use Rattle.answers.specs.Numbers.{number}
use Rattle.answers.specs.declared.Refusal.{Refusal}
use Rattle.answers.proofs.Replies.{numbered}
use Rattle.trials.specs.Rules.{Rule, rule, Overall, Least, Silent, Refused, Accepted}
use Rattle.trials.specs.Tries.{Tells, Verdict, or_if, OrIf, AfterIs, After, AfterOwnIs, AfterOwn}
use Rattle.trials.proofs.Passing.{both}
use Rattle.trials.proofs.Single.{Soles, one_refusal, not_refused}
use Rattle.trials.proofs.Trying.{refused_first, refused_later}

-- The promise of `or_if` allows one verdict.
pub one_or_if : {R : Type 0} (v : Result (Unit {0}) R) (b : Bool) (a : R) (r s : Result (Unit {0}) R) → OrIf v b a r → OrIf v b a s → r ≡ s
one_or_if v b a r s p q = p.is ∙ sym q.is

-- a test that holds, behind a silence
pub or_given : {R : Type 0} (v : Result (Unit {0}) R) (b : Bool) (a : R) → v ≡ Ok tt → b ≡ true → Err a ≡ or_if v b a
or_given {R} v b a e t =
    sym (subst (λ (x : Result (Unit {0}) R). or_if x b a ≡ Err a) (sym e) (subst (λ (x : Bool). or_if (Ok tt) x a ≡ Err a) (sym t) refl))

module _ {R : Type 0} (k p : R → ℕ) where
  own_append_is : (ps qs : List Rule) (v w r : Result (Unit {0}) R) → AfterOwnIs k p v ps w → AfterOwnIs k p w qs r → AfterOwnIs k p v (ps ++ qs) r
  unfolding AfterOwnIs
  own_append_is ps qs (Err a) w r x y = subst (λ (z : Result (Unit {0}) R). AfterOwnIs k p z qs r) x y
  own_append_is ps qs (Ok _) (Err b) r x y =
      subst (λ (z : Result (Unit {0}) R). AfterOwnIs k p (Ok tt) (ps ++ qs) z) (sym y) (refused_first ps qs (k b) (p b) x.0, x.1)
  own_append_is ps qs (Ok _) (Ok _) (Ok _) x y = (both ps qs (record { accepted = x }) (record { accepted = y })).accepted
  own_append_is ps qs (Ok _) (Ok _) (Err a) x y = (refused_later ps qs (k a) (p a) x y.0, y.1)

  own_none_is : (v : Result (Unit {0}) R) → AfterOwnIs k p v [] v
  unfolding AfterOwnIs Accepted
  own_none_is (Err a) = refl
  own_none_is (Ok _) = tt

  pub own_none : {v : Result (Unit {0}) R} → AfterOwn k p v [] v
  own_none {v} = record { is = own_none_is v }

  pub own_append : (ps qs : List Rule) {v w r : Result (Unit {0}) R} → AfterOwn k p v ps w → AfterOwn k p w qs r → AfterOwn k p v (ps ++ qs) r
  own_append ps qs {v} {w} {r} x y = record { is = own_append_is ps qs v w r x.is y.is }

  -- one rule, whatever its number, and those behind it
  own_rule_is : (q : Rule) (v r : Result (Unit {0}) R) (b : Bool) (a : R) → r ≡ or_if v b a → k a ≡ q.number → 0 < k a → (b ≡ true → q.given (p a)) → (b ≡ false → Silent q) → AfterOwnIs k p v (q ∷ []) r
  unfolding AfterOwnIs Accepted Refused
  own_rule_is q (Err x) r b a e n some on off = e
  own_rule_is q (Ok _) r true a e n some on off = subst (λ (x : Result (Unit {0}) R). AfterOwnIs k p (Ok tt) (q ∷ []) x) (sym e) (inl (n, on refl), some)
  own_rule_is q (Ok _) r false a e n some on off = subst (λ (x : Result (Unit {0}) R). AfterOwnIs k p (Ok tt) (q ∷ []) x) (sym e) (off refl, tt)

  pub own_cons : (q : Rule) {qs : List Rule} {v w r : Result (Unit {0}) R} {b : Bool} {a : R} → OrIf v b a w → k a ≡ q.number → 0 < k a → (b ≡ true → q.given (p a)) → (b ≡ false → Silent q) → AfterOwn k p w qs r → AfterOwn k p v (q ∷ qs) r
  own_cons q {qs} {v} {w} {r} {b} {a} o n some on off rest =
      own_append (q ∷ []) qs (record { is = own_rule_is q v w b a o.is n some on off }) rest

  -- a rule of the whole list, by a test
  pub own_overall : {n : ℕ} {P : Type 0} {qs : List Rule} {v w r : Result (Unit {0}) R} {b : Bool} {a : R} → OrIf v b a w → Tells P b → k a ≡ n → p a ≡ 0 → 0 < k a → AfterOwn k p w qs r → AfterOwn k p v (rule n (Overall P) ∷ qs) r
  own_overall {n} {P} o t e z some rest = own_cons (rule n (Overall P)) o e some (λ y. (t.yes y, z)) (λ y place g. t.no y g.0) rest

  -- a rule of a report, by the least that is at fault
  pub own_least : {n m : ℕ} {F : ℕ → Type 0} {qs : List Rule} {v w r : Result (Unit {0}) R} {b : Bool} {a : R} → OrIf v b a w → (b ≡ true → Least m F (p a)) → (b ≡ false → (i : ℕ) → i < m → F i → ⊥) → k a ≡ n → 0 < k a → AfterOwn k p w qs r → AfterOwn k p v (rule n (Least m F) ∷ qs) r
  own_least {n} {m} {F} o found none e some rest = own_cons (rule n (Least m F)) o e some found (λ y place g. none y place g.on_list g.at_fault) rest

  -- rules behind a verdict so far, put there by std's `and`: a refusal stays, and behind a silence the rules are tried
  own_behind_is : (qs : List Rule) (w r : Result (Unit {0}) R) → AfterOwnIs k p (Ok tt) qs r → AfterOwnIs k p w qs (result_and w r)
  unfolding AfterOwnIs
  own_behind_is qs (Err a) r x = refl
  own_behind_is qs (Ok _) r x = x

  pub own_behind : {qs : List Rule} {w r s : Result (Unit {0}) R} → s ≡ result_and w r → AfterOwn k p (Ok tt) qs r → AfterOwn k p w qs s
  own_behind {qs} {w} {r} {s} e x = subst (λ (z : Result (Unit {0}) R). AfterOwn k p w qs z) (sym e) (record { is = own_behind_is qs w r x.is })

  -- a group of such rules allows one verdict, where a refusal is told by its number and its place
  module _ (apart : (a b : R) → k a ≡ k b → p a ≡ p b → a ≡ b) where
    one_own_is : (rules : List Rule) (v r s : Result (Unit {0}) R) → Soles rules → AfterOwnIs k p v rules r → AfterOwnIs k p v rules s → r ≡ s
    unfolding AfterOwnIs
    one_own_is rules (Err a) r s single x y = x ∙ sym y
    one_own_is rules (Ok _) (Ok _) (Ok _) single x y = refl
    one_own_is rules (Ok _) (Ok _) (Err b) single x y = absurd (not_refused rules x (k b) (p b) y.0)
    one_own_is rules (Ok _) (Err a) (Ok _) single x y = absurd (not_refused rules y (k a) (p a) x.0)
    one_own_is rules (Ok _) (Err a) (Err b) single x y =
        let e = one_refusal rules single.single (k a) (p a) (k b) (p b) x.0 y.0 in ap Err (apart a b e.0 e.1)

    pub one_own : {rules : List Rule} (v r s : Result (Unit {0}) R) → Soles rules → AfterOwn k p v rules r → AfterOwn k p v rules s → r ≡ s
    one_own {rules} v r s single x y = one_own_is rules v r s single x.is y.is

  -- rules that give a Refusal come before them, each refusal told in the tool's own type
  abbrev pub told : (Refusal → R) → Verdict → Result (Unit {0}) R
  told f (Ok _) = Ok tt
  told f (Err a) = Err (f a)

  own_told_is : (f : Refusal → R) → ((a : Refusal) → k (f a) ≡ number a.fault) → ((a : Refusal) → p (f a) ≡ a.place) → (rules : List Rule) (v r : Verdict) → AfterIs v rules r → AfterOwnIs k p (told f v) rules (told f r)
  unfolding AfterIs AfterOwnIs
  own_told_is f n z rules (Err a) r e = subst (λ (x : Verdict). told f x ≡ Err (f a)) (sym e) refl
  own_told_is f n z rules (Ok _) (Ok _) e = e
  own_told_is f n z rules (Ok _) (Err a) e =
      (subst (λ (i : ℕ). Refused rules i (p (f a))) (sym (n a)) (subst (λ (i : ℕ). Refused rules (number a.fault) i) (sym (z a)) e.refused), subst (λ (i : ℕ). 0 < i) (sym (n a)) (numbered a.fault))

  pub own_told : (f : Refusal → R) → ((a : Refusal) → k (f a) ≡ number a.fault) → ((a : Refusal) → p (f a) ≡ a.place) → {rules : List Rule} {v r : Verdict} → After v rules r → AfterOwn k p (told f v) rules (told f r)
  own_told f n z {rules} {v} {r} h = record { is = own_told_is f n z rules v r h.is }
