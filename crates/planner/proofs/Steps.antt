-- What two reports that join, the floor of a report, and a step of the search are, law by law. The check finds these by itself since the functions are methods of `FairList` and `Search`; they stand for whoever
-- reads or proves by hand.
-- Assumes nothing.
use Rattle.std.proofs.Common.{◌≡◌, ℕ, suc, ◌+◌, ◌<◌, ◌≤◌, min, true, false, leb, List, length, get_or, ap, subst, add-one, arith, leb-false, leb-true, ControlFlow, Continue, Break}
use Rattle.fraction.proofs.Scale.{cases}
use Rattle.critical.specs.Reports.{Reports}
use Rattle.planner.specs.Inside.{Joins, FloorIs, KeptIs, EndIs, StepIs}
use Rattle.planner.specs.declared.search.Kept.{Kept}
use Rattle.planner.specs.declared.search.End.{End}

-- ---- whether two reports join, and the floor of a report
module _ (xs ys : List ℕ) (j : ℕ) where
  pub joins_yes : j + 1 < length xs → leb (get_or xs (j + 1) 0) (get_or ys j 0) ≡ true → Joins xs ys j
  joins_yes h e = record {
    on = omega arith;
    meets = subst (λ (k : ℕ). get_or xs k 0 ≤ get_or ys j 0) (add-one j) (leb-true _ _ e);
  }

  pub joins_late : leb (get_or xs (j + 1) 0) (get_or ys j 0) ≡ false → Joins xs ys j → ⊥
  joins_late e k = omega (arith, subst (λ (k : ℕ). get_or ys j 0 < get_or xs k 0) (add-one j) (leb-false _ _ e), k.meets)

  pub joins_end : length xs ≤ j + 1 → Joins xs ys j → ⊥
  joins_end h k = omega (arith, k.on)

  -- where there is a next report, the sooner of its arrival and the deadline
  pub floor_least : (r : ℕ) → j + 1 < length xs → r ≡ min (get_or xs (j + 1) 0) (get_or ys j 0) → FloorIs xs ys j r
  floor_least r l e =
      let next : get_or xs (j + 1) 0 ≡ get_or xs (suc j) 0 = ap (λ (i : ℕ). get_or xs i 0) (add-one j) in
      record {
        joined = λ k. omega (arith, e, next, k.meets);
        apart = λ n. cases (get_or ys j 0) (get_or xs (suc j) 0) (λ h. omega (arith, e, next, h)) (λ h. absurd (n (record { on = omega (arith, l); meets = h })));
      }

-- ---- a step that is known to end the search, or to go on
module _ (ℓ : Reports) (s p n : ℕ) (r : ControlFlow End Kept) (is : StepIs ℓ s p n r) where
  pub step_ends : (e : End) → r ≡ Break e → EndIs ℓ s p e
  step_ends e eq = subst (StepIs ℓ s p n) eq is

  pub step_goes : (k : Kept) → r ≡ Continue k → KeptIs ℓ s p k × (k.next ≡ n + 1)
  step_goes k eq = subst (StepIs ℓ s p n) eq is
