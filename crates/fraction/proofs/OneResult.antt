-- A promise that is an equation, as that of `Pace::below`, `Report::new` and `Roll::new`, allows one result only.
-- Assumes nothing.
use mathlib.Core.Path.{◌≡◌, sym, ◌∙◌}

pub one_by_equation {ℓ} : {A : Type ℓ} {promised r s : A} → r ≡ promised → s ≡ promised → r ≡ s
one_by_equation p q = p ∙ sym q
