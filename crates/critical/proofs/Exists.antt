-- A roomy list has `Critical` rows: the search, run from the first report to the last.
-- Assumes nothing.
use Prim.Native.Nat.{ℕ, zero, suc, ◌+◌, ◌≤◌, ◌<◌}
use mathlib.Core.Path.{◌≡◌, refl, sym, ◌∙◌, ap, subst}
use mathlib.Core.Bool.{cond}
use native.Mathlib.Omega.{arith}
use native.Mathlib.Nat.{not-suc-le-zero, le_refl}
use lib.Dec.{ltb}
use borrow.Author.Tests.{lt-ltb, le-ltb}
use Rattle.fraction.specs.Fraction.{Fraction}
use Rattle.fraction.proofs.Scale.{cases}
use Rattle.critical.specs.Reports.{Reports, Working, Positive}
use Rattle.critical.specs.Rows.{Row, behind, Critical}
use Rattle.critical.proofs.Room.{Roomy}
use Rattle.critical.proofs.Search.{Stretch, stretch_from, Ready, row_of, search_finds}
use Rattle.critical.proofs.Cover.{behind_zero, behind_suc}
use Rattle.critical.proofs.Chain.{begins, Link, Chain, chain_more, ready_behind, chain_critical}

-- the rows with r as row m
abbrev put : (ℕ → Row) → ℕ → Row → ℕ → Row
put rows m r k = cond (ltb k m) (rows k) r

put_before : (rows : ℕ → Row) (m : ℕ) (r : Row) (k : ℕ) → k < m → rows k ≡ put rows m r k
put_before rows m r k h = sym (ap (λ b. cond b (rows k) r) (lt-ltb k m h))

put_at : (rows : ℕ → Row) (m : ℕ) (r : Row) → put rows m r m ≡ r
put_at rows m r = ap (λ b. cond b (rows m) r) (le-ltb m m (le_refl m))

-- before the first search and before each next one, the list is ready
pub ready :
    (ℓ : Reports) (f : Fraction) → Roomy ℓ f → Working ℓ → (m : ℕ) (rows : ℕ → Row) → Chain ℓ f m rows → (k : ℕ) →
    Stretch ℓ (behind rows m) k → Ready ℓ f (begins ℓ rows m) (behind rows m) k
unfolding begins behind
ready ℓ f roomy working zero rows ch k st = λ j h l. roomy zero j h (omega (arith, st.on_list))
ready ℓ f roomy working (suc m) rows ch k st =
    let l = ch m (le_refl (suc m)) in
    ready_behind ℓ f (begins ℓ rows m) (behind rows m) (rows m) l roomy (working (rows m).first (omega (arith, l.found.ordered, l.found.within, l.is.on_list))) k st

module _ (ℓ : Reports) (f : Fraction) (roomy : Roomy ℓ f) (working : Working ℓ) where
  Done : Type 0
  Done = (m : ℕ) × (rows : ℕ → Row) × Chain ℓ f m rows × (behind rows m ≡ ℓ.count)

  build : (fuel m : ℕ) (rows : ℕ → Row) → Chain ℓ f m rows → behind rows m ≤ ℓ.count → ℓ.count ≤ behind rows m + fuel → Done
  unfolding Done
  build zero m rows ch on all = (m, rows, ch, omega arith)
  build (suc fuel) m rows ch on all =
      let go : (rows' : ℕ → Row) → Chain ℓ f (suc m) rows' → behind rows' (suc m) ≤ ℓ.count → ℓ.count ≤ behind rows' (suc m) + fuel → Done = build fuel (suc m) in
      cases (behind rows m) ℓ.count (more go) (λ h. (m, rows, ch, omega arith))
    where
      more :
          ((rows' : ℕ → Row) → Chain ℓ f (suc m) rows' → behind rows' (suc m) ≤ ℓ.count → ℓ.count ≤ behind rows' (suc m) + fuel → Done) →
          behind rows m < ℓ.count → Done
      more go h =
          let p : ℕ = behind rows m in
          let t = stretch_from ℓ p h in
          let k : ℕ = t.0 in
          let st : Stretch ℓ p k = t.1 in
          let found = search_finds ℓ f (begins ℓ rows m) p k st (working p h) (ready ℓ f roomy working m rows ch k st) in
          let r : Row = row_of ℓ (begins ℓ rows m) p found.0 found.1 in
          let link : Link ℓ f (begins ℓ rows m) (behind rows m) r = record { first = refl; start = refl; stretch = k; is = st; found = found.2 } in
          let rows' : ℕ → Row = put rows m r in
          let e : behind rows' (suc m) ≡ suc found.0 = behind_suc rows' m ∙ ap (λ (x : Row). suc x.last) (put_at rows m r) in
          go rows'
          (chain_more ℓ f m rows rows' (put_before rows m r) ch (subst (Link ℓ f (begins ℓ rows m) (behind rows m)) (sym (put_at rows m r)) link))
          (omega (arith, found.2.within, st.on_list)) (omega (arith, found.2.ordered))

  pub exists_chain : (m : ℕ) × (rows : ℕ → Row) × Chain ℓ f m rows × (behind rows m ≡ ℓ.count)
  unfolding Done
  exists_chain =
      let none : ℕ → Row = λ k. record { first = 0; last = 0; start = 0; end = 0; operations = 0 } in
      build ℓ.count zero none (λ k h. absurd (not-suc-le-zero h)) (omega (arith, behind_zero none)) (omega (arith, behind_zero none))

  pub exists : Positive f → (m : ℕ) × (rows : ℕ → Row) × Critical ℓ f m rows
  exists pos = let d = exists_chain in (d.0, d.1, chain_critical ℓ f d.0 d.1 d.2 working pos d.3)
