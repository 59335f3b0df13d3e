-- Numbers copied into a buffer from a place on: what stands where, and the loop that copies.
-- Assumes nothing.
use Prim.Native.Nat.{ℕ, ◌+◌, ◌-◌, ◌≤◌, ◌<◌}
use mathlib.Core.Path.{◌≡◌, sym, ◌∙◌, ap, subst}
use mathlib.Core.List.{List, ◌++◌}
use native.Mathlib.Omega.{arith}
use native.Mathlib.Numerals.{add-one}
use lib.ListN.{length, get_or, take, set, get_or-append}
use lib.Seq.{paste, paste-zero, paste-suc, take-paste, drop-paste, length-paste, length-take-le, get_or-take, get_or-drop, get_or-append-add}

-- ---- the numbers of a list into which n numbers of another were copied, from a place on
module _ (d : List ℕ) (at : ℕ) (s : List ℕ) (n : ℕ) (room : at + n ≤ length d) (long : n ≤ length s) where
  fits : at ≤ length d
  fits = omega arith

  in_front : (i : ℕ) → i < at + n → get_or (paste d at s n) i 0 ≡ get_or (take at d ++ take n s) i 0
  in_front i h = sym (get_or-take (at + n) (paste d at s n) i 0 h) ∙ ap (λ (l : List ℕ). get_or l i 0) (take-paste d at s n fits long)

  pub paste_before : (i : ℕ) → i < at → get_or (paste d at s n) i 0 ≡ get_or d i 0
  paste_before i h =
      let e : length (take at d) ≡ at = length-take-le at d fits in
      in_front i (omega arith) ∙ get_or-append (take at d) (take n s) 0 i (omega (arith, e)) ∙ get_or-take at d i 0 h

  pub paste_within : (j : ℕ) → j < n → get_or (paste d at s n) (at + j) 0 ≡ get_or s j 0
  paste_within j h =
      let e : length (take at d) ≡ at = length-take-le at d fits in
      in_front (at + j) (omega arith)
      ∙ ap (λ (k : ℕ). get_or (take at d ++ take n s) (k + j) 0) (sym e)
      ∙ get_or-append-add (take at d) (take n s) j 0 ∙ get_or-take n s j 0 h

  pub paste_behind : (i : ℕ) → at + n ≤ i → get_or (paste d at s n) i 0 ≡ get_or d i 0
  paste_behind i h =
      let e : at + n + (i - (at + n)) ≡ i = omega arith in
      subst (λ (k : ℕ). get_or (paste d at s n) k 0 ≡ get_or d k 0) e
      (sym (get_or-drop (at + n) (paste d at s n) (i - (at + n)) 0) ∙ ap (λ (l : List ℕ). get_or l (i - (at + n)) 0) (drop-paste d at s n fits long) ∙ get_or-drop (at + n) d (i - (at + n)) 0)

-- ---- a loop that copies: j of n numbers stand there
pub record Copied (d : List ℕ) (at : ℕ) (s : List ℕ) (n j : ℕ) (r : List ℕ) : Type 0 where
  pub upto : j ≤ n
  pub is : r ≡ paste d at s j

module _ {d : List ℕ} {at : ℕ} {s : List ℕ} {n : ℕ} (room : at + n ≤ length d) (long : length s ≡ n) where
  pub copied_long : {j : ℕ} {r : List ℕ} → Copied d at s n j r → length r ≡ length d
  copied_long {j} c = ap length c.is ∙ length-paste d at s j (omega (arith, c.upto)) (omega (arith, c.upto))

  pub copied_more : {j : ℕ} {r : List ℕ} → Copied d at s n j r → j < n → Copied d at s n (j + 1) (set r (at + j) (get_or s j 0))
  copied_more {j} {r} c h = record {
    upto = omega arith;
    is = ap (λ (l : List ℕ). set l (at + j) (get_or s j 0)) c.is ∙ paste-suc d at s j 0 (omega arith) (omega arith) ∙ ap (paste d at s) (sym (add-one j));
  }

  pub copied_all : {j : ℕ} {r : List ℕ} → Copied d at s n j r → n ≤ j → r ≡ paste d at s n
  copied_all {j} c h = let e : j ≡ n = omega (arith, c.upto) in c.is ∙ ap (paste d at s) e

pub copied_none : {d : List ℕ} {at : ℕ} {s : List ℕ} {n : ℕ} → Copied d at s n 0 d
copied_none {d} {at} {s} = record { upto = omega arith; is = paste-zero d at s }
