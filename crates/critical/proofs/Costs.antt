-- A cost that falls in ever flatter straight pieces is not lowered by any rival (demand 3's last sentence). How far such a cost has fallen at pace x is a sum
-- of multiples of x capped at the pieces' ends; ours is no less than the rival's in each.
-- Assumes nothing.
use Prim.Native.Nat.{ℕ, zero, suc, ◌+◌, ◌*◌, ◌-◌, ◌≤◌, ◌<◌, min, zero-le, suc-le-suc}
use mathlib.Core.Path.{◌≡◌, refl, sym, ◌∙◌, ap, ap₂, subst₂}
use mathlib.Core.List.{List, [], ◌∷◌}
use native.Mathlib.Omega.{arith}
use native.Mathlib.Nat.{mul-pos, mul-le-mul_left, mul-add, mul_assoc, mul-zero, one-mul, le_refl, lt-suc_self}
use Rattle.fraction.specs.Fraction.{Fraction, ◌≼◌, whole, over}
use Rattle.fraction.proofs.Scale.{At, at_whole, at_plus, at_less, at_product, at_more, at_over, at_le, le_at, Fits, scaled, at_scaled, fits_den, fits_left, fits_right}
use Rattle.fraction.proofs.Order.{≼_refl, plus_≼}
use Rattle.critical.specs.Reports.{Reports, Paces, Keeps}
use Rattle.critical.specs.Rows.{sum, CriticalPlan}
use Rattle.critical.specs.Cost.{total, sum_at, Piece, Cost, Flatter, fallen, bill, NoHigher}
use Rattle.critical.proofs.Numbers.{ours, term_≤_sum}
use Rattle.critical.proofs.Scaled.{AtAll, at_total}
use Rattle.critical.proofs.Least.{common, common_pos, at_ours, at_rival, least_sums}

-- ---- sums
sum_≡ : (f g : ℕ → ℕ) (n : ℕ) → ((i : ℕ) → i < n → f i ≡ g i) → sum f n ≡ sum g n
unfolding sum
sum_≡ f g zero h = refl
sum_≡ f g (suc n) h = ap₂ ◌+◌ (sum_≡ f g n (λ i k. h i (omega arith))) (h n (lt-suc_self n))

sum_plus : (f g : ℕ → ℕ) (n : ℕ) → sum (λ i. f i + g i) n ≡ sum f n + sum g n
unfolding sum
sum_plus f g zero = omega arith
sum_plus f g (suc n) = omega (arith, sum_plus f g n)

sum_times : (k : ℕ) (f : ℕ → ℕ) (n : ℕ) → sum (λ i. k * f i) n ≡ k * sum f n
unfolding sum
sum_times k f zero = omega arith
sum_times k f (suc n) = omega (arith, sum_times k f n)

-- ---- what ours has more of
module _ (n : ℕ) (w t u : ℕ → ℕ) where
  abbrev weigh : (ℕ → ℕ) → (ℕ → ℕ) → ℕ
  weigh φ x = sum (λ i. w i * φ (x i)) n

  -- ours has at least the rival's sum of operations times φ of the pace
  abbrev Gains : (ℕ → ℕ) → Type 0
  Gains φ = weigh φ u ≤ weigh φ t

  weigh_plus : (φ ψ : ℕ → ℕ) (x : ℕ → ℕ) → weigh (λ y. φ y + ψ y) x ≡ weigh φ x + weigh ψ x
  weigh_plus φ ψ x = sum_≡ _ _ n (λ i h. mul-add (w i) (φ (x i)) (ψ (x i))) ∙ sum_plus (λ i. w i * φ (x i)) (λ i. w i * ψ (x i)) n

  weigh_times : (k : ℕ) (φ : ℕ → ℕ) (x : ℕ → ℕ) → weigh (λ y. k * φ y) x ≡ k * weigh φ x
  weigh_times k φ x = sum_≡ _ _ n (λ i h. omega arith) ∙ sum_times k (λ i. w i * φ (x i)) n

  gains_plus : (φ ψ : ℕ → ℕ) → Gains φ → Gains ψ → Gains (λ y. φ y + ψ y)
  gains_plus φ ψ p q = omega (arith, weigh_plus φ ψ t, weigh_plus φ ψ u)

  gains_times : (k : ℕ) (φ : ℕ → ℕ) → Gains φ → Gains (λ y. k * φ y)
  gains_times k φ p = omega (arith, weigh_times k φ t, weigh_times k φ u, mul-le-mul_left k p)

  gains_≡ : (φ ψ : ℕ → ℕ) → ((y : ℕ) → φ y ≡ ψ y) → Gains φ → Gains ψ
  gains_≡ φ ψ e p = omega (arith, p, sum_≡ (λ i. w i * φ (t i)) (λ i. w i * ψ (t i)) n (λ i h. ap (◌*◌ (w i)) (e (t i))), sum_≡ (λ i. w i * φ (u i)) (λ i. w i * ψ (u i)) n (λ i h. ap (◌*◌ (w i)) (e (u i))))

  module _ (least : (C : ℕ) → sum (ours w t C) n ≤ sum (ours w u C) n) where
    -- the pace capped at C: what it has less is the shortfall
    capped : (C : ℕ) (x : ℕ → ℕ) → sum (ours w x C) n + weigh (min C) x ≡ weigh (λ y. C) x
    capped C x = sym (sum_plus (ours w x C) (λ i. w i * min C (x i)) n) ∙ sum_≡ _ _ n (λ i h. both (x i) (w i))
      where
        whole_cap : (y : ℕ) → C - y + min C y ≡ C
        whole_cap y = omega arith

        both : (y v : ℕ) → v * (C - y) + v * min C y ≡ v * C
        both y v = omega (arith, ap (◌*◌ v) (whole_cap y), mul-add v (C - y) (min C y))

    gains_cap : (C : ℕ) → Gains (min C)
    gains_cap C = omega (arith, least C, capped C t, capped C u)

    -- a cap above every pace is none
    gains_all : Gains (λ y. y)
    gains_all = omega (arith, gains_cap C, sum_≡ (λ i. w i * min C (t i)) (λ i. w i * t i) n (λ i h. ap (◌*◌ (w i)) (under (t i) (small_t i h))), sum_≡ (λ i. w i * min C (u i)) (λ i. w i * u i) n (λ i h. ap (◌*◌ (w i)) (under (u i) (small_u i h))))
      where
        C : ℕ
        C = sum t n + sum u n

        under : (y : ℕ) → y ≤ C → min C y ≡ y
        under y h = omega arith

        small_t : (i : ℕ) → i < n → t i ≤ sum t n + sum u n
        small_t i h = omega (arith, term_≤_sum t n i h)

        small_u : (i : ℕ) → i < n → u i ≤ sum t n + sum u n
        small_u i h = omega (arith, term_≤_sum u n i h)

-- ---- the pieces in whole numbers: paces and reaches at scale M, falls at scale N
module _ (M N : ℕ) (rest : Fraction) where
  -- M fits the reaches, N the falls
  FitAll : List Piece → Type 0
  FitAll [] = Fits N rest
  FitAll (p ∷ ps) = Fits M p.reach × Fits N p.fall × FitAll ps

  drop : ℕ → List Piece → ℕ → ℕ
  drop from [] y = scaled N rest * (y - from)
  drop from (p ∷ ps) y = scaled N p.fall * ((y - from) - (y - scaled M p.reach)) + drop (scaled M p.reach) ps y

  -- the pieces from pace from on are no steeper than m, and ever flatter
  Slopes : ℕ → ℕ → List Piece → Type 0
  Slopes m from [] = scaled N rest ≤ m
  Slopes m from (p ∷ ps) = (from ≤ scaled M p.reach) × (scaled N p.fall ≤ m) × Slopes (scaled N p.fall) (scaled M p.reach) ps

  slopes : (p : Piece) (ps : List Piece) → Flatter (p ∷ ps) rest → FitAll (p ∷ ps) → Slopes (scaled N p.fall) (scaled M p.reach) ps
  unfolding Flatter FitAll Slopes
  slopes p [] fl fit = le_at (at_scaled fit.2) (at_scaled fit.1) fl
  slopes p (q ∷ ps) fl fit =
      (le_at (at_scaled fit.0) (at_scaled fit.2.0) fl.0, le_at (at_scaled fit.2.1) (at_scaled fit.1) fl.1, slopes q ps fl.2 fit.2)

  at_fallen :
      (pos_m : 0 < M) (pos_n : 0 < N) (from x : Fraction) (F X : ℕ) (ps : List Piece) → FitAll ps → At M from F → At M x X →
      At (N * M) (fallen from ps rest x) (drop F ps X)
  unfolding fallen drop FitAll
  at_fallen pos_m pos_n from x F X [] fit af ax = at_product (at_scaled fit) (at_less pos_m ax af)
  at_fallen pos_m pos_n from x F X (p ∷ ps) fit af ax =
      let r = at_scaled fit.0 in
      at_plus (at_product (at_scaled fit.1) (at_less pos_m (at_less pos_m ax af) (at_less pos_m ax r))) (at_fallen pos_m pos_n p.reach x (scaled M p.reach) X ps fit.2 r ax)

  -- ours has fallen at least as far as the rival
  module _ (n : ℕ) (w t u : ℕ → ℕ) (least : (C : ℕ) → sum (ours w t C) n ≤ sum (ours w u C) n) where
    steeper : (m F from y : ℕ) → F ≤ m → (m - F) * min from y + F * min from y ≡ m * min from y
    steeper m F from y h = omega (arith, ap (λ (z : ℕ). z * min from y) (again h))
      where
        again : F ≤ m → m - F + F ≡ m
        again k = omega arith

    gains_drop : (ps : List Piece) (m from : ℕ) → Slopes m from ps → Gains n w t u (λ y. m * min from y + drop from ps y)
    unfolding drop Slopes
    gains_drop [] m from h =
        gains_≡ n w t u (λ y. (m - scaled N rest) * min from y + scaled N rest * y) (λ y. m * min from y + drop from [] y)
        (λ y. omega (arith, steeper m (scaled N rest) from y h, ap (◌*◌ (scaled N rest)) (past y)))
        (gains_plus n w t u (λ y. (m - scaled N rest) * min from y) (λ y. scaled N rest * y) (gains_times n w t u (m - scaled N rest) (min from) (gains_cap n w t u least from)) (gains_times n w t u (scaled N rest) (λ y. y) (gains_all n w t u least)))
      where
        past : (y : ℕ) → y ≡ min from y + (y - from)
        past y = omega arith
    gains_drop (p ∷ ps) m from h =
        let F : ℕ = scaled N p.fall in
        let R : ℕ = scaled M p.reach in
        gains_≡ n w t u (λ y. (m - F) * min from y + (F * min R y + drop R ps y)) (λ y. m * min from y + drop from (p ∷ ps) y)
        (λ y. omega (arith, steeper m F from y h.1, ap (◌*◌ F) (inside y h.0)))
        (gains_plus n w t u (λ y. (m - F) * min from y) (λ y. F * min R y + drop R ps y) (gains_times n w t u (m - F) (min from) (gains_cap n w t u least from)) (gains_drop ps F R h.2))
      where
        inside : (y : ℕ) → from ≤ scaled M p.reach → min (scaled M p.reach) y ≡ min from y + ((y - from) - (y - scaled M p.reach))
        inside y k = omega arith

    -- from pace nil on: nothing is capped at nil
    from_nil : (m : ℕ) (φ : ℕ → ℕ) → Gains n w t u (λ y. m * min zero y + φ y) → Gains n w t u φ
    from_nil m φ = gains_≡ n w t u (λ y. m * min zero y + φ y) φ (λ y. omega (arith, ap (◌*◌ m) (capped_nil y)))
      where
        capped_nil : (y : ℕ) → min zero y ≡ zero
        capped_nil y = omega arith

    falls_further : (ps : List Piece) → Flatter ps rest → FitAll ps → Gains n w t u (drop zero ps)
    unfolding Slopes
    falls_further [] fl fit = from_nil (scaled N rest) (drop zero []) (gains_drop [] (scaled N rest) zero (le_refl (scaled N rest)))
    falls_further (p ∷ ps) fl fit =
        from_nil (scaled N p.fall) (drop zero (p ∷ ps)) (gains_drop (p ∷ ps) (scaled N p.fall) zero (zero-le, le_refl (scaled N p.fall), slopes p ps fl fit))

-- ---- scales that fit
reaches : List Piece → ℕ
reaches [] = 1
reaches (p ∷ ps) = p.reach.den * reaches ps

falls : Fraction → List Piece → ℕ
falls rest [] = rest.den
falls rest (p ∷ ps) = p.fall.den * falls rest ps

reaches_pos : (ps : List Piece) → 0 < reaches ps
unfolding reaches
reaches_pos [] = suc-le-suc zero-le
reaches_pos (p ∷ ps) = mul-pos p.reach.proper (reaches_pos ps)

falls_pos : (rest : Fraction) (ps : List Piece) → 0 < falls rest ps
unfolding falls
falls_pos rest [] = rest.proper
falls_pos rest (p ∷ ps) = mul-pos p.fall.proper (falls_pos rest ps)

fit_all : (rest : Fraction) (j k : ℕ) (ps : List Piece) → FitAll (j * reaches ps) (k * falls rest ps) rest ps
unfolding FitAll reaches falls
fit_all rest j k [] = fits_den rest k
fit_all rest j k (p ∷ ps) =
    (fits_right j (fits_left (reaches ps) (fits_own p.reach)), fits_right k (fits_left (falls rest ps) (fits_own p.fall)), subst₂ (λ (x y : ℕ). FitAll x y rest ps) (mul_assoc j p.reach.den (reaches ps)) (mul_assoc k p.fall.den (falls rest ps)) (fit_all rest (j * p.reach.den) (k * p.fall.den) ps))
  where
    fits_own : (f : Fraction) → Fits f.den f
    fits_own f = rw one-mul at (fits_den f 1)

-- ---- the theorem, in fractions
module _ (ℓ : Reports) (T U : Paces) (c : Cost) where
  abbrev n : ℕ
  n = ℓ.count

  K : ℕ
  K = common ℓ T U (whole 0)

  M : ℕ
  M = K * reaches c.pieces

  N : ℕ
  N = 1 * falls c.rest c.pieces

  pos_m : 0 < M
  unfolding M K
  pos_m = mul-pos (common_pos ℓ T U (whole 0)) (reaches_pos c.pieces)

  pos_n : 0 < N
  unfolding N
  pos_n = mul-pos (suc-le-suc zero-le) (falls_pos c.rest c.pieces)

  fit : FitAll M N c.rest c.pieces
  unfolding M N
  fit = fit_all c.rest K 1 c.pieces

  abbrev t : ℕ → ℕ
  t i = scaled K (T i) * reaches c.pieces

  abbrev u : ℕ → ℕ
  u i = scaled K (U i) * reaches c.pieces

  a_t : AtAll M T n t
  unfolding M K
  a_t i h = at_more (reaches c.pieces) (at_ours ℓ T U (whole 0) i h)

  a_u : AtAll M U n u
  unfolding M K
  a_u i h = at_more (reaches c.pieces) (at_rival ℓ T U (whole 0) i h)

  at_off :
      {R : Paces} {v : ℕ → ℕ} → AtAll M R n v →
      At (N * M) (total ℓ (λ i. fallen (whole zero) c.pieces c.rest (R i)) n) (weigh n ℓ.operations v v (drop M N c.rest zero c.pieces) v)
  at_off av = at_total ℓ (mul-pos pos_n pos_m) (λ i h. at_fallen M N c.rest pos_m pos_n (whole zero) _ zero _ c.pieces fit (rw mul-zero at (at_whole M zero)) (av i h)) n (le_refl n)

  at_sums : {R : Paces} {v : ℕ → ℕ} → AtAll M R n v → (C : ℕ) → At M (sum_at ℓ (over C M) R) (sum (ours ℓ.operations v C) n)
  at_sums av C = at_total ℓ pos_m (λ i h. at_less pos_m (at_over M C M C pos_m refl) (av i h)) n (le_refl n)

  -- a plan whose sum is at no threshold greater than the rival's costs no more
  pub sums_cost : Flatter c.pieces c.rest → ((x : Fraction) → sum_at ℓ x T ≼ sum_at ℓ x U) → NoHigher (bill ℓ c T) (bill ℓ c U)
  sums_cost flat least =
      plus_≼ (≼_refl (total ℓ (λ i. c.top) n))
      (at_le (at_off a_u) (at_off a_t) (mul-pos pos_n pos_m)
      (falls_further M N c.rest n ℓ.operations t u (λ C. le_at (at_sums a_t C) (at_sums a_u C) (least (over C M))) c.pieces flat fit))

  pub least_cost : (fastest : Fraction) → Flatter c.pieces c.rest → CriticalPlan ℓ fastest T → Keeps ℓ U → NoHigher (bill ℓ c T) (bill ℓ c U)
  least_cost fastest flat crit keeps = sums_cost flat (λ x. least_sums ℓ T U x fastest crit keeps)
