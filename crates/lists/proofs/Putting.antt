-- Text put into a buffer: the same text, one text after another, and text put by turns.
-- Assumes nothing.
use Prim.Native.Nat.{ℕ, zero, suc, ◌+◌, ◌*◌, ◌-◌, ◌≤◌, ◌<◌}
use mathlib.Core.Path.{◌≡◌, refl, sym, ◌∙◌, ap, ap₂, subst}
use mathlib.Core.List.{List, [], ◌∷◌, ◌++◌, append-nil, append_assoc}
use native.Mathlib.Omega.{arith}
use native.Mathlib.Nat.{add-zero, zero-add, suc-add, add_assoc}
use native.Mathlib.Numerals.{add-one}
use lib.ListN.{length, get_or, take, drop, set, length-drop, length-append, take-append-drop, drop_of_length-le}
use lib.Seq.{paste, length-paste, take_all, drop-nil, take-length, drop-length, drop-drop, take-append_seam, drop-append_seam, set_split}
use Rattle.lists.specs.Puts.{Puts}
use Rattle.lists.proofs.Copying.{paste_before, paste_behind}

-- ---- into a part of a buffer that is lent from a place on
-- what is put into the part stands in the buffer, once the part is given back
pub puts_part : {text out new : List ℕ} {at r : ℕ} → Puts (take (length out - at) (drop at out)) 0 text r new → Puts out at text (at + r) (take at out ++ (new ++ drop (length out - at) (drop at out)))
puts_part {text} {out} {at = at} p = record {
  behind = ap (λ (k : ℕ). at + k) (p.behind ∙ zero-add (length text));
  written = rw (p.written, zero-add, ← length-drop at out, take-length (drop at out), drop-length (drop at out), append-nil, drop-drop) refl;
}

-- so does text that is copied to its front
pub puts : {text out new : List ℕ} {at r : ℕ} → r ≡ length text → new ≡ take (length text) text ++ drop (length text) (take (length out - at) (drop at out)) → Puts out at text (at + r) (take at out ++ (new ++ drop (length out - at) (drop at out)))
puts {text} {new = new} e n = puts_part {new = new} (record { behind = e ∙ sym (zero-add (length text)); written = rw (n, take-length text, zero-add) refl })

-- the same text
pub puts_as : {out : List ℕ} {at : ℕ} {t u : List ℕ} {r : ℕ} {after : List ℕ} → t ≡ u → Puts out at t r after → Puts out at u r after
puts_as {out} {at} {r = r} {after = after} e p = subst (λ (z : List ℕ). Puts out at z r after) e p

-- the same place behind it
pub puts_to : {out : List ℕ} {at : ℕ} {t : List ℕ} {r s : ℕ} {after : List ℕ} → r ≡ s → Puts out at t r after → Puts out at t s after
puts_to e p = record { behind = sym e ∙ p.behind; written = p.written }

-- one text put allows one place behind it, and one buffer
pub one_put : {before : List ℕ} {at : ℕ} {text : List ℕ} {r s : ℕ} {a b : List ℕ} → Puts before at text r a → Puts before at text s b → (r ≡ s) × (a ≡ b)
one_put p q = (p.behind ∙ sym q.behind, p.written ∙ sym q.written)

-- one byte
pub puts_byte : {out : List ℕ} {at byte : ℕ} → at < length out → Puts out at (byte ∷ []) (at + 1) (set out at byte)
puts_byte {out} {at} {byte} h = record { behind = refl; written = rw (add-one at) (set_split out at byte h) }

-- ---- one text after another
-- the buffer up to the place behind the text, and from there on
front : (t : List ℕ) (at : ℕ) (out : List ℕ) → take (at + length t) (take at out ++ (t ++ drop (at + length t) out)) ≡ take at out ++ t
front t zero out = rw zero-add (take-append_seam t (drop (length t) out))
front t (suc at) [] = rw (drop-nil, append-nil) (take_all (suc at + length t) t (omega arith))
front t (suc at) (x ∷ xs) = rw suc-add (ap (λ (z : List ℕ). x ∷ z) (front t at xs))

back : (t : List ℕ) (at : ℕ) (out : List ℕ) → drop (at + length t) (take at out ++ (t ++ drop (at + length t) out)) ≡ drop (at + length t) out
back t zero out = rw zero-add (drop-append_seam t (drop (length t) out))
back t (suc at) [] = rw (drop-nil, append-nil) (drop_of_length-le t {i = suc at + length t} (omega arith))
back t (suc at) (x ∷ xs) = rw suc-add (back t at xs)

-- the buffer up to the place behind the text, once it is put
pub put_front : {before : List ℕ} {at : ℕ} {text : List ℕ} {r : ℕ} {after : List ℕ} → Puts before at text r after → take r after ≡ take at before ++ text
put_front {before} {at} {text} p = ap₂ take p.behind p.written ∙ front text at before

pub puts_then : {out : List ℕ} {at : ℕ} {t u : List ℕ} {r s : ℕ} {mid after : List ℕ} → Puts out at t r mid → Puts mid r u s after → Puts out at (t ++ u) s after
puts_then {out} {at} {t} {u} {mid = mid} p q = record {
  behind = rw (q.behind, p.behind, length-append t u) (add_assoc at (length t) (length u));
  written = rw (q.written, p.behind, ← drop-drop (length u) (at + length t) mid, p.written, front t at out, back t at out, drop-drop) (simp (append_assoc, length-append, add_assoc));
}

-- the same, with the place by an equation
pub puts_next : {out : List ℕ} {at : ℕ} {t u : List ℕ} {r p s : ℕ} {mid after : List ℕ} → p ≡ r → Puts out at t r mid → Puts mid p u s after → Puts out at (t ++ u) s after
puts_next e a b = puts_then (puts_to (sym e) a) b

-- ---- text put by turns
-- After k turns the text for k stands in the buffer, and no turn took more than its room.
pub record Turns (before : List ℕ) (at : ℕ) (text : ℕ → List ℕ) (room k r : ℕ) (after : List ℕ) : Type 0 where
  pub put : Puts before at (text k) r after
  pub short : r ≤ at + room * k
  pub long : length after ≡ length before

module _ {before : List ℕ} {at : ℕ} {text : ℕ → List ℕ} {room : ℕ} where
  pub no_turn : text 0 ≡ [] → Turns before at text room 0 at before
  no_turn e = record {
    put = puts_as (sym e) (record { behind = sym (add-zero at); written = rw add-zero (sym (take-append-drop at before)) });
    short = omega arith;
    long = refl;
  }

  pub one_turn : {k r s : ℕ} {more mid after : List ℕ} → Turns before at text room k r mid → Puts mid r more s after → text (suc k) ≡ text k ++ more → s ≤ r + room → length after ≡ length mid → Turns before at text room (k + 1) s after
  one_turn {k} w p e h l = record {
    put = rw (add-one k) (puts_as (sym e) (puts_then w.put p));
    short = omega (arith, w.short);
    long = l ∙ w.long;
  }

  pub all_turns : {k n r : ℕ} {after : List ℕ} → k ≤ n → n ≤ k → Turns before at text room k r after → Turns before at text room n r after
  all_turns {k} {n} {r} {after} a b w = let e : k ≡ n = omega arith in subst (λ (j : ℕ). Turns before at text room j r after) e w

-- ---- what stands where once text is put, if there was room for it
module _ {before : List ℕ} {at : ℕ} {text : List ℕ} {r : ℕ} {after : List ℕ} (p : Puts before at text r after) (room : at + length text ≤ length before) where
  pasted : after ≡ paste before at text (length text)
  pasted =
      p.written ∙ sym (append_assoc (take at before) text (drop (at + length text) before))
      ∙ ap (λ (t : List ℕ). take at before ++ t ++ drop (at + length text) before) (sym (take-length text))

  pub put_long : length after ≡ length before
  put_long = ap length pasted ∙ length-paste before at text (length text) room (omega arith)

  pub put_before : (i : ℕ) → i < at → get_or after i 0 ≡ get_or before i 0
  put_before i h = ap (λ (l : List ℕ). get_or l i 0) pasted ∙ paste_before before at text (length text) room (omega arith) i h

  pub put_behind : (i : ℕ) → at + length text ≤ i → get_or after i 0 ≡ get_or before i 0
  put_behind i h = ap (λ (l : List ℕ). get_or l i 0) pasted ∙ paste_behind before at text (length text) room (omega arith) i h
