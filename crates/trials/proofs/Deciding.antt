-- Rules that can be decided: a list of them is accepted, or gives a refusal.
-- Assumes nothing.
use Prim.Native.Nat.{ℕ, zero, suc, ◌≤◌, ◌<◌}
use mathlib.Core.Path.{◌≡◌, refl, sym, subst}
use mathlib.Core.Bool.{Bool, true, false}
use mathlib.Core.List.{List, [], ◌∷◌}
use mathlib.Core.Logic.{◌⊎◌, inl, inr, ⊎_elim}
use native.Mathlib.Omega.{arith}
use native.Mathlib.Decide.{dec_lt, ℕ_discrete}
use native.Mathlib.Nat.{eq-or-lt_of_le, le_of_suc-le-suc, not-suc-le-zero, le_refl}
use lib.Dec.{T, ltb}
use borrow.Author.Tests.{ltb-true}
use Rattle.trials.specs.Rules.{Rule, rule, Overall, Least, Falls, Silent, Refused, Accepted}
use Rattle.trials.proofs.Passing.{Passed}

-- ---- statements that can be decided
pub record Decidable (P : Type 0) : Type 0 where
  pub decided : P ⊎ (P → ⊥)

unfoldable pub dec_below : {a b : ℕ} → Decidable (a < b)
dec_below {a} {b} = record { decided = elim (dec_lt a b) [ yes h ↦ inl h | no h ↦ inr h ] }

unfoldable pub dec_equal : {a b : ℕ} → Decidable (a ≡ b)
dec_equal {a} {b} = record { decided = elim (ℕ_discrete a b) [ yes e ↦ inl e | no h ↦ inr h ] }

unfoldable pub dec_not : {P : Type 0} → Decidable P → Decidable (P → ⊥)
dec_not d = record { decided = ⊎_elim (λ h. inr (λ n. n h)) (λ h. inl h) d.decided }

unfoldable pub dec_or : {P Q : Type 0} → Decidable P → Decidable Q → Decidable (P ⊎ Q)
dec_or d e = record { decided = ⊎_elim (λ h. inl (inl h)) (λ h. ⊎_elim (λ k. inl (inr k)) (λ k. inr (λ o. ⊎_elim h k o)) e.decided) d.decided }

unfoldable pub dec_falls : (a : ℕ → ℕ) (i : ℕ) → Decidable (Falls a i)
unfolding Falls
dec_falls a zero = record { decided = inr (λ f. f) }
dec_falls a (suc i) = dec_below

-- ---- rules
-- a fault that can be decided has a least report or none
unfoldable pub least_or_none : (n : ℕ) (F : ℕ → Type 0) → ((i : ℕ) → Decidable (F i)) → ((p : ℕ) × Least n F p) ⊎ ((p : ℕ) → Least n F p → ⊥)
least_or_none n F d = ⊎_elim (λ (f : (p : ℕ) × Least n F p). inl f) (λ h. inr (λ p l. h p l.on_list l.at_fault)) (go n (le_refl n))
  where
    go : (m : ℕ) → m ≤ n → ((p : ℕ) × Least n F p) ⊎ ((i : ℕ) → i < m → F i → ⊥)
    go zero h = inr (λ i l. absurd (not-suc-le-zero l))
    go (suc m) h =
        let here : ((i : ℕ) → i < m → F i → ⊥) → ((p : ℕ) × Least n F p) ⊎ ((i : ℕ) → i < suc m → F i → ⊥) =
        λ k. ⊎_elim (λ (f : F m). inl (m, record { on_list = h; at_fault = f; least = k }))
        (λ no-m. inr (λ i l. ⊎_elim (λ (e : i ≡ m). subst (λ (j : ℕ). F j → ⊥) (sym e) no-m) (λ s. k i s) (eq-or-lt_of_le (le_of_suc-le-suc l)))) (d m).decided in
        ⊎_elim (λ f. inl f) here (go m (omega arith))

-- each rule is given somewhere or silent, and has a number
unfoldable pub Decided : List Rule → Type 0
Decided [] = Unit {0}
Decided (r ∷ rs) = (((p : ℕ) × r.given p) ⊎ Silent r) × (0 < r.number) × Decided rs

pub record Decides (rules : List Rule) : Type 0 where
  pub decides : Decided rules

unfoldable pub decides_none : Decides []
unfolding Decided
decides_none = record { decides = tt }

unfoldable pub decides_overall : {number : ℕ} {P : Type 0} {qs : List Rule} → Decidable P → ltb 0 number ≡ true → Decides qs → Decides (rule number (Overall P) ∷ qs)
unfolding Decided
decides_overall {number} d some rest = record { decides = (⊎_elim (λ h. inl (0, (h, refl))) (λ h. inr (λ p g. h g.0)) d.decided, ltb-true 0 number some, rest.decides) }

unfoldable pub decides_least : {number n : ℕ} {F : ℕ → Type 0} {qs : List Rule} → ((i : ℕ) → Decidable (F i)) → ltb 0 number ≡ true → Decides qs → Decides (rule number (Least n F) ∷ qs)
unfolding Decided
decides_least {number} {n} {F} d some rest = record { decides = (least_or_none n F d, ltb-true 0 number some, rest.decides) }

-- what search is handed for a list of rules
pub ruleset deciding = (decides_overall, decides_least, decides_none, dec_below, dec_equal, dec_not, dec_or, dec_falls)

-- ---- a refusal, or none: where a list of rules is written out, which of them is computed
pub record Gives (rules : List Rule) : Type 0 where
  pub number : ℕ
  pub place : ℕ
  pub numbered : 0 < number
  pub refused : Refused rules number place

unfoldable pub outcome : (rules : List Rule) → Decided rules → Passed rules ⊎ Gives rules
unfolding Decided Accepted Refused
outcome [] d = inl (record { accepted = tt })
outcome (r ∷ rs) d =
    ⊎_elim (λ g. inr (record { number = r.number; place = g.0; numbered = d.1; refused = inl (refl, g.1) }))
    (λ s. ⊎_elim (λ a. inl (record { accepted = (s, a.accepted) }))
    (λ g. inr (record { number = g.number; place = g.place; numbered = g.numbered; refused = inr (s, g.refused) })) (outcome rs d.2)) d.0

unfoldable pub passed_or_given : {rules : List Rule} → Decides rules → Passed rules ⊎ Gives rules
passed_or_given {rules} d = outcome rules d.decides

-- ---- where a list of rules is written out, whether none is given can be computed
unfoldable pub passes : (rules : List Rule) → Decided rules → Bool
unfolding Decided
passes [] d = true
passes (r ∷ rs) d = ⊎_elim (λ _. false) (λ _. passes rs d.2) d.0

-- so `passed_by d tt` proves it
pub passed_by : {rules : List Rule} (d : Decides rules) → T (passes rules d.decides) → Passed rules
unfolding passes Decided Accepted
passed_by {rules} d t = record { accepted = go rules d.decides t }
  where
    go : (rules : List Rule) (d : Decided rules) → T (passes rules d) → Accepted rules
    go [] d t = tt
    go (r ∷ rs) (inl g, some, d) t = absurd t
    go (r ∷ rs) (inr s, some, d) t = (s, go rs d t)
