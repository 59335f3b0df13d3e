-- Plans over whole numbers: starts, finishes, sums, the four properties, and the strong inequality. Everything here is a list of whole arrivals, deadlines,
-- operations and paces; a plan in fractions becomes one by a common scale (Scaled.antt).
-- Assumes nothing.
use Prim.Native.Nat.{ℕ, zero, suc, ◌+◌, ◌*◌, ◌-◌, ◌≤◌, ◌<◌, max, zero-le}
use mathlib.Core.Path.{◌≡◌, refl, sym, ap}
use mathlib.Core.Bool.{cond}
use mathlib.Core.Logic.{⊎_elim}
use native.Mathlib.Omega.{arith}
use native.Mathlib.Nat.{mul-sub, mul-le-mul_left, mul-pos, eq-or-lt_of_le, le_of_suc-le-suc, not-suc-le-zero, le_refl, lt-suc_self}
use lib.Dec.{ltb}
use borrow.Author.Tests.{lt-ltb, le-ltb}
use Rattle.fraction.proofs.Scale.{cases}
use Rattle.critical.specs.Rows.{sum}

-- ---- sums
-- terms that are no larger give a sum that is no larger
pub sum_≤ : (f g : ℕ → ℕ) (n : ℕ) → ((i : ℕ) → i < n → f i ≤ g i) → sum f n ≤ sum g n
unfolding sum
sum_≤ f g zero h = zero-le
sum_≤ f g (suc n) h = omega (arith, sum_≤ f g n (λ i k. h i (omega arith)), h n (lt-suc_self n))

-- a term of a sum is no larger than the sum
pub term_≤_sum : (f : ℕ → ℕ) (n i : ℕ) → i < n → f i ≤ sum f n
unfolding sum
term_≤_sum f zero i h = absurd (not-suc-le-zero h)
term_≤_sum f (suc n) i h =
    ⊎_elim (λ (e : i ≡ n). rw e (omega arith)) (λ k. omega (arith, term_≤_sum f n i k)) (eq-or-lt_of_le (le_of_suc-le-suc h))

-- ---- starts and finishes
unfoldable pub starts : (a w t : ℕ → ℕ) → ℕ → ℕ
starts a w t zero = a zero
starts a w t (suc i) = max (a (suc i)) (starts a w t i + w i * t i)

abbrev pub ends : (a w t : ℕ → ℕ) → ℕ → ℕ
ends a w t i = starts a w t i + w i * t i

-- the four properties, of whole numbers
pub record Joints (n : ℕ) (a d w t : ℕ → ℕ) : Type 0 where
  pub idle : (i : ℕ) → suc i < n → d i < a (suc i) → ends a w t i ≡ d i
  pub busy : (i : ℕ) → suc i < n → a (suc i) ≤ d i → a (suc i) ≤ ends a w t i
  pub rise : (i : ℕ) → suc i < n → a (suc i) ≤ ends a w t i → t i < t (suc i) → ends a w t i ≡ d i
  pub fall : (i : ℕ) → suc i < n → a (suc i) ≤ ends a w t i → t (suc i) < t i → ends a w t i ≡ a (suc i)
  pub last : (i : ℕ) → suc i ≡ n → ends a w t i ≡ d i

-- the finishes are in time
abbrev pub InTime : (n : ℕ) (a d w t : ℕ → ℕ) → Type 0
InTime n a d w t = (i : ℕ) → i < n → ends a w t i ≤ d i

-- ---- the terms of the strong inequality: ours, the rival's, and what the rival strays
abbrev pub ours : (w t : ℕ → ℕ) (C : ℕ) → ℕ → ℕ
ours w t C i = w i * (C - t i)

abbrev pub strays : (w t u : ℕ → ℕ) (C : ℕ) → ℕ → ℕ
strays w t u C i = w i * cond (ltb (t i) C) (u i - C) (C - u i)

module _ (w t u : ℕ → ℕ) (C i : ℕ) where
  stray_fast : t i < C → strays w t u C i ≡ w i * (u i - C)
  stray_fast h = ap (λ b. w i * cond b (u i - C) (C - u i)) (lt-ltb (t i) C h)

  stray_slow : C ≤ t i → strays w t u C i ≡ w i * (C - u i)
  stray_slow h = ap (λ b. w i * cond b (u i - C) (C - u i)) (le-ltb (t i) C h)

  -- what a report adds where ours is fast: both sides gain operations times C
  fast_ours : t i < C → ours w t C i + w i * t i ≡ w i * C
  fast_ours h = omega (arith, mul-sub (w i) C (t i), mul-le-mul_left {m = t i} {n = C} (w i) (omega arith))

  fast_rival : t i < C → ours w u C i + w i * u i ≡ w i * C + strays w t u C i
  fast_rival h = cases (u i) C (λ k. omega (arith, stray_fast h, mul-sub (w i) C (u i), mul-sub (w i) (u i) C, mul-le-mul_left {m = u i} {n = C} (w i) (omega arith)))
      (λ k. omega (arith, stray_fast h, mul-sub (w i) C (u i), mul-sub (w i) (u i) C, mul-le-mul_left {m = C} {n = u i} (w i) k))

  -- and where ours is not fast: ours adds nil, the rival exactly what it strays
  slow_ours : C ≤ t i → ours w t C i ≡ 0
  slow_ours h = omega (arith, mul-sub (w i) C (t i), mul-le-mul_left {m = C} {n = t i} (w i) h)

  slow_rival : C ≤ t i → ours w u C i ≡ strays w t u C i
  slow_rival h = sym (stray_slow h)

-- ---- the strong inequality
module _ (a d w t u : ℕ → ℕ) (C : ℕ) where
  -- the sums so far, with the two finishes on the scales while ours is fast
  Level : ℕ → Type 0
  Level n = sum (ours w t C) n + sum (strays w t u C) n ≤ sum (ours w u C) n

  record Weighed (i : ℕ) : Type 0 where
    fast : t i < C → sum (ours w t C) (suc i) + sum (strays w t u C) (suc i) + ends a w t i ≤ sum (ours w u C) (suc i) + ends a w u i
    slow : C ≤ t i → Level (suc i)

  -- a report that begins level: ours starts at its arrival, or is not fast
  from_level : (i : ℕ) → Level i → a i ≤ starts a w u i → (t i < C → starts a w t i ≡ a i) → Weighed i
  unfolding sum Level
  from_level i l s e = record {
    fast = λ h. omega (arith, fast_ours w t u C i h, fast_rival w t u C i h, e h);
    slow = λ h. omega (arith, slow_ours w t u C i h, slow_rival w t u C i h);
  }

  arrives : (i : ℕ) → a i ≤ starts a w u i
  unfolding starts
  arrives zero = le_refl (a zero)
  arrives (suc i) = omega arith

  -- a fast run that ends at its deadline leaves the sums level
  closes : (i : ℕ) → Weighed i → ends a w u i ≤ d i → (t i < C → ends a w t i ≡ d i) → Level (suc i)
  unfolding Level
  closes i s k e = cases (t i) C (λ h. omega (arith, s.fast h, e h)) (λ h. s.slow h)

  module _ (n : ℕ) (j : Joints n a d w t) (k : InTime n a d w u) where
    next : (i : ℕ) → suc i < n → Weighed i → Weighed (suc i)
    unfolding starts sum
    next i h s = cases (d i) (a (suc i)) idle busy
      where
        in_time : ends a w u i ≤ d i
        in_time = k i (omega arith)

        idle : d i < a (suc i) → Weighed (suc i)
        idle g =
            from_level (suc i) (closes i s in_time (λ f. j.idle i h g)) (arrives (suc i)) (λ f. omega (arith, j.idle i h g))

        fast_again :
            a (suc i) ≤ ends a w t i → t i < C → t (suc i) < C →
            sum (ours w t C) (suc (suc i)) + sum (strays w t u C) (suc (suc i)) + ends a w t (suc i) ≤ sum (ours w u C) (suc (suc i)) + ends a w u (suc i)
        fast_again b f f' = omega (arith, s.fast f, fast_ours w t u C (suc i) f', fast_rival w t u C (suc i) f')

        busy : a (suc i) ≤ d i → Weighed (suc i)
        busy g =
            let b : a (suc i) ≤ ends a w t i = j.busy i h g
            in cases (t i) C
            (λ f. cases (t (suc i)) C (λ f'. record { fast = λ _. fast_again b f f'; slow = λ sl. absurd (omega arith) })
            (λ sl. from_level (suc i) (closes i s in_time (λ _. j.rise i h b (omega arith))) (arrives (suc i)) (λ f'. absurd (omega arith))))
            (λ sl. from_level (suc i) (s.slow sl) (arrives (suc i)) (λ f'. omega (arith, j.fall i h b (omega arith))))

    weighed : (i : ℕ) → i < n → Weighed i
    unfolding sum starts Level
    weighed zero h = from_level zero (omega arith) (arrives zero) (λ f. refl)
    weighed (suc i) h = next i h (weighed i (omega arith))

    level : (m : ℕ) → m ≡ n → Level m
    unfolding sum Level
    level zero e = omega arith
    level (suc m) e = closes m (weighed m (omega arith)) (k m (omega arith)) (λ f. j.last m e)

    -- our sum and what the rival strays are together no more than the rival's sum
    pub strong : sum (ours w t C) n + sum (strays w t u C) n ≤ sum (ours w u C) n
    unfolding Level
    strong = level n refl

-- ---- what equal sums say: where a rival's sum is no more than ours, it strays nowhere
module _ (a d w t u : ℕ → ℕ) (n : ℕ) (j : Joints n a d w t) (k : InTime n a d w u) (C i : ℕ) (h : i < n) (working : 0 < w i) where
  pub not_faster : sum (ours w u C) n ≤ sum (ours w t C) n → C ≤ t i → C ≤ u i
  not_faster e s =
      cases (u i) C
      (λ l. absurd (omega (arith, strong a d w t u C n j k, term_≤_sum (strays w t u C) n i h, stray_slow w t u C i s, mul-pos {m = w i} {n = C - u i} working (omega arith))))
      (λ g. g)

-- two plans with the four properties, both in time, have the same paces
pub same_pace :
    (a d w t u : ℕ → ℕ) (n : ℕ) → Joints n a d w t → InTime n a d w t → Joints n a d w u → InTime n a d w u →
    ((i : ℕ) → i < n → 0 < w i) → (i : ℕ) → i < n → t i ≤ u i
same_pace a d w t u n j k j' k' p i h =
    not_faster a d w t u n j k' (t i) i h (p i h) (omega (arith, strong a d w u t (t i) n j' k)) (le_refl (t i))
