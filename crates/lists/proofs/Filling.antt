-- A loop that fills the front of a buffer, number by number: one law, whatever the numbers are made of.
-- Assumes nothing.
use Prim.Native.Nat.{ℕ, zero, suc, ◌+◌, ◌-◌, ◌≤◌, ◌<◌}
use mathlib.Core.Path.{◌≡◌, refl, sym, ◌∙◌, ap, subst}
use mathlib.Core.List.{List, [], ◌∷◌, ◌++◌, map}
use mathlib.Core.Logic.{⊎_elim}
use native.Mathlib.Omega.{arith}
use native.Mathlib.Nat.{add-zero, eq-or-lt_of_le, le_of_suc-le-suc, not-suc-le-zero}
use native.Mathlib.Numerals.{add-one}
use lib.ListN.{length, get_or, take, drop, set, length-set, length-append, length-drop, get_or-append}
use lib.Seq.{take_all, take-suc-set, ext_get_or, length-take-le, get_or-take, get_or-drop, get_or-append-add}
use Rattle.lists.specs.Listed.{listed}

-- ---- a list by its numbers
pub length-listed : (n : ℕ) (f : ℕ → ℕ) → length (listed n f) ≡ n
unfolding listed
length-listed zero f = refl
length-listed (suc n) f = length-append (listed n f) (f n ∷ []) ∙ ap (λ (k : ℕ). k + 1) (length-listed n f) ∙ add-one n

pub get_or-listed : (n : ℕ) (f : ℕ → ℕ) (k : ℕ) → k < n → get_or (listed n f) k 0 ≡ f k
unfolding listed
get_or-listed zero f k h = absurd (not-suc-le-zero h)
get_or-listed (suc n) f k h =
    let long : length (listed n f) ≡ n = length-listed n f in
    ⊎_elim
    (λ (e : k ≡ n). subst (λ (j : ℕ). get_or (listed n f ++ (f n ∷ [])) j 0 ≡ f j) (sym e)
    (subst (λ (j : ℕ). get_or (listed n f ++ (f n ∷ [])) j 0 ≡ f n) (add-zero (length (listed n f)) ∙ long) (get_or-append-add (listed n f) (f n ∷ []) 0 0)))
    (λ l. get_or-append (listed n f) (f n ∷ []) 0 k (omega (arith, long, l)) ∙ get_or-listed n f k l)
    (eq-or-lt_of_le (le_of_suc-le-suc h))

-- what a list is that has these numbers
pub as_listed : (l : List ℕ) (n : ℕ) (f : ℕ → ℕ) → length l ≡ n → ((k : ℕ) → k < n → get_or l k 0 ≡ f k) → l ≡ listed n f
as_listed l n f e h = ext_get_or 0 l (listed n f) (e ∙ sym (length-listed n f)) (λ k s. let d : k < n = omega (arith, e, s) in h k d ∙ sym (get_or-listed n f k d))

-- a list made by a function from another
pub length-map : (g : ℕ → ℕ) (l : List ℕ) → length (map g l) ≡ length l
length-map g [] = refl
length-map g (x ∷ l) = ap suc (length-map g l)

get_or-map : (g : ℕ → ℕ) (l : List ℕ) (k : ℕ) → k < length l → get_or (map g l) k 0 ≡ g (get_or l k 0)
get_or-map g [] k h = absurd (not-suc-le-zero h)
get_or-map g (x ∷ l) zero h = refl
get_or-map g (x ∷ l) (suc k) h = get_or-map g l k (le_of_suc-le-suc h)

pub map-listed : (g : ℕ → ℕ) (l : List ℕ) → map g l ≡ listed (length l) (λ i. g (get_or l i 0))
map-listed g l = as_listed (map g l) (length l) (λ i. g (get_or l i 0)) (length-map g l) (get_or-map g l)

-- a part of another
pub part_listed : (l : List ℕ) (from n : ℕ) → from + n ≤ length l → take n (drop from l) ≡ listed n (λ i. get_or l (from + i) 0)
part_listed l from n h =
    let d : length (drop from l) ≡ length l - from = length-drop from l in
    as_listed (take n (drop from l)) n (λ i. get_or l (from + i) 0) (length-take-le n (drop from l) (omega (arith, d)))
    (λ k s. get_or-take n (drop from l) k 0 s ∙ get_or-drop from l k 0)

-- ---- the loop: i of n numbers stand in the buffer
pub record Filled (f : ℕ → ℕ) (n : ℕ) (before : List ℕ) (i : ℕ) (out : List ℕ) : Type 0 where
  pub upto : i ≤ n
  pub long : length out ≡ length before
  pub front : take i out ≡ listed i f

pub filled_none : {f : ℕ → ℕ} {n : ℕ} {before : List ℕ} → Filled f n before 0 before
unfolding listed
filled_none = record { upto = omega arith; long = refl; front = refl }

pub filled_more : {f : ℕ → ℕ} {n i v : ℕ} {before out : List ℕ} → Filled f n before i out → i < n → n ≤ length before → v ≡ f i → Filled f n before (i + 1) (set out i v)
unfolding listed
filled_more {f} {n} {i} {v} {before} {out} c h room e = record {
  upto = omega arith;
  long = length-set out i v ∙ c.long;
  front = rw (add-one i, take-suc-set out i v (omega (arith, c.long)), c.front, e) refl;
}

pub filled_all : {f : ℕ → ℕ} {n i : ℕ} {before out : List ℕ} → Filled f n before i out → n ≤ i → take n out ≡ listed n f
filled_all {f} {n} {i} {before} {out} c h = let e : i ≡ n = omega (arith, c.upto) in subst (λ (k : ℕ). take k out ≡ listed k f) e c.front

-- the whole buffer
pub filled_whole : {f : ℕ → ℕ} {n i : ℕ} {before out : List ℕ} → Filled f n before i out → n ≤ i → length before ≡ n → out ≡ listed n f
filled_whole {f} {n} {i} {before} {out} c h e = sym (take_all n out (omega (arith, e, c.long))) ∙ filled_all c h

-- ---- the front that was filled is as long as it should be
pub front_long : (f : ℕ → ℕ) (to : List ℕ) (n : ℕ) → take n to ≡ listed n f → n ≡ length (take n to)
front_long f to n e = sym (ap length e ∙ length-listed n f)
