-- One law for every search for a fault: a loop that tests place after place has passed those before i, none of them at fault.
-- Assumes nothing.
use Prim.Native.Nat.{ℕ, zero, suc, ◌+◌, ◌-◌, ◌≤◌, ◌<◌}
use mathlib.Core.Path.{◌≡◌, subst}
use mathlib.Core.Logic.{⊎_elim}
use native.Mathlib.Omega.{arith}
use native.Mathlib.Nat.{not-suc-le-zero}
use borrow.Author.Count.{below_more}
use Rattle.std.specs.Prelude.{Some, None}
use Rattle.trials.specs.Rules.{Outside, Falls}
use Rattle.trials.specs.Tries.{FirstOf}

pub record Scanned (Fault : ℕ → Type 0) (i : ℕ) : Type 0 where
  pub none_before : (k : ℕ) → k < i → Fault k → ⊥

pub scan_begins : {Fault : ℕ → Type 0} → Scanned Fault 0
scan_begins = record { none_before = λ k h. absurd (not-suc-le-zero h) }

pub scan_goes : {Fault : ℕ → Type 0} {i : ℕ} → Scanned Fault i → (Fault i → ⊥) → Scanned Fault (i + 1)
scan_goes {Fault} {i} s h = record { none_before = below_more _ _ s.none_before h }

pub scan_finds : {Fault : ℕ → Type 0} {n i : ℕ} → Scanned Fault i → i < n → Fault i → FirstOf n Fault (Some i)
scan_finds s h f = record { found = record { on_list = h; at_fault = f; least = s.none_before }; none = tt }

pub scan_ends : {Fault : ℕ → Type 0} {n i : ℕ} → Scanned Fault i → n ≤ i → FirstOf n Fault None
scan_ends s h = record { found = tt; none = λ k l. s.none_before k (omega arith) }

-- ---- faults
pub inside : (low high x : ℕ) → low ≤ x → x ≤ high → Outside low high x → ⊥
inside low high x a b o = ⊎_elim (λ h. omega arith) (λ h. omega arith) o

-- the first number falls below nothing
pub no_fall_first : (a : ℕ → ℕ) → Falls a 0 → ⊥
unfolding Falls
no_fall_first a f = f

-- so a search for a fall begins with the second
pub scan_begins_falls : (a : ℕ → ℕ) → Scanned (Falls a) 1
scan_begins_falls a = scan_goes scan_begins (no_fall_first a)

pub falls_at : (a : ℕ → ℕ) (i : ℕ) → 1 ≤ i → a i < a (i - 1) → Falls a i
unfolding Falls
falls_at a zero h f = absurd (omega arith)
falls_at a (suc i) h f = let e : suc i - 1 ≡ i = omega arith in subst (λ (k : ℕ). a (suc i) < a k) e f

pub no_fall_at : (a : ℕ → ℕ) (i : ℕ) → 1 ≤ i → a (i - 1) ≤ a i → Falls a i → ⊥
unfolding Falls
no_fall_at a zero h g f = f
no_fall_at a (suc i) h g f = let e : suc i - 1 ≡ i = omega arith in omega (arith, subst (λ (k : ℕ). a k ≤ a (suc i)) e g)
