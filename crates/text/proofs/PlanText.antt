-- The text of a plan: without room, and with it; and that the promise allows one result.
-- Assumes nothing.
use Prim.Native.Nat.{ℕ, ◌+◌, ◌*◌}
use mathlib.Core.Path.{◌≡◌, refl, sym, ◌∙◌}
use mathlib.Core.List.{List, ◌++◌}
use mathlib.Core.Logic.{◌⊎◌, inl, inr, ⊎_elim}
use native.Mathlib.Omega.{arith}
use lib.ListN.{length, take, drop}
use Rattle.answers.specs.Numbers.{width}
use Rattle.fraction.proofs.Scale.{cases}
use Rattle.lists.specs.Puts.{Puts}
use Rattle.text.specs.Text.{first_line, row_lines, plan_text, text_room, Room, TextIs}
use Rattle.lists.proofs.Putting.{puts_then, one_put}

module _ {number place blocks : ℕ} {rows before : List ℕ} where
  -- without room
  pub says_nothing : (Room blocks rows before → ⊥) → TextIs number place blocks rows before 0 before
  says_nothing h = record { put = λ room. absurd (h room); no_room = λ _. (refl, refl) }

  -- with it
  pub says : {r s : ℕ} {mid after : List ℕ} → Room blocks rows before → Puts before 0 (first_line number place blocks) r mid → Puts mid r (row_lines rows blocks) s after → TextIs number place blocks rows before s after
  says room p q = record { put = λ _. puts_then p q; no_room = λ h. absurd (h room) }

-- ---- one result
room_decided : (blocks : ℕ) (rows out : List ℕ) → Room blocks rows out ⊎ (Room blocks rows out → ⊥)
room_decided blocks rows out =
    cases 1024 blocks (λ a. inr (λ room. omega (arith, a, room.few)))
    (λ a. cases (length rows) (width * blocks) (λ b. inr (λ room. omega (arith, b, room.rows_long)))
    (λ b. cases (length out) (text_room blocks) (λ c. inr (λ room. omega (arith, c, room.out_long)))
    (λ c. inl (record { few = a; rows_long = b; out_long = c }))))

-- The promise of `plan_text` allows one length and one buffer for each input.
pub one_text : (number place blocks : ℕ) (rows before : List ℕ) (r s : ℕ) (a b : List ℕ) → TextIs number place blocks rows before r a → TextIs number place blocks rows before s b → (r ≡ s) × (a ≡ b)
one_text number place blocks rows before r s a b v w =
    ⊎_elim (λ room. one_put (v.put room) (w.put room))
    (λ none. ((v.no_room none).0 ∙ sym (w.no_room none).0, (v.no_room none).1 ∙ sym (w.no_room none).1)) (room_decided blocks rows before)

-- And there is one for each.
pub some_text : (number place blocks : ℕ) (rows before : List ℕ) → (r : ℕ) × (after : List ℕ) × TextIs number place blocks rows before r after
some_text number place blocks rows before =
    let text = plan_text number place blocks rows in
    ⊎_elim
    (λ (room : Room blocks rows before). (
      0 + length text,
      take 0 before ++ (text ++ drop (0 + length text) before),
      record { put = λ _. record { behind = refl; written = refl }; no_room = λ h. absurd (h room) },
    ))
    (λ (none : Room blocks rows before → ⊥). (0, before, says_nothing none)) (room_decided blocks rows before)
