-- The promise of `write` allows one reply and one buffer for each input, and there is one: its rules decide each.
-- Assumes nothing.
use Prim.Native.Nat.{ℕ, zero, suc, ◌+◌}
use mathlib.Core.Path.{◌≡◌, refl, sym, ◌∙◌, ap, ap₂}
use mathlib.Core.List.{List}
use mathlib.Core.Logic.{⊎_elim}
use native.Mathlib.Omega.{arith}
use Rattle.answers.specs.Numbers.{number_of, place_of}
use Rattle.answers.proofs.Replies.{always_proper, same_answer}
use Rattle.lists.proofs.Putting.{one_put}
use Rattle.trials.proofs.Passing.{Passed}
use Rattle.trials.proofs.Single.{Soles, singly, not_refused, one_refusal}
use Rattle.trials.proofs.Deciding.{Decides, Gives, deciding, passed_or_given}
use Rattle.writer.specs.Bytes.{Listing}
use Rattle.writer.specs.Writing.{rules_for, WriteOutcome, Wrote, bytes_of, InBytes}
use Rattle.writer.specs.declared.WriteReply.{WriteReply}
use Rattle.writer.proofs.Outcomes.{refused, written, all_put}

-- ---- a reply is told by its three numbers
reply : ℕ → ℕ → ℕ → WriteReply
reply n p b = record { number = n; place = p; bytes = b }

same_reply : (r t : WriteReply) → r.number ≡ t.number → r.place ≡ t.place → r.bytes ≡ t.bytes → r ≡ t
unfolding reply
same_reply r t e e' e'' = ap₂ (λ (n p : ℕ). reply n p r.bytes) e e' ∙ ap (reply t.number t.place) e''

-- The promise of `WriteReply::from` allows one reply.
pub one_reply_of : (a : Wrote) (r t : WriteReply) → InBytes a r → InBytes a t → r ≡ t
one_reply_of a r t i j = same_reply r t (i.number_is ∙ sym j.number_is) (i.place_is ∙ sym j.place_is) (i.bytes_is ∙ sym j.bytes_is)

module _ (x : Listing) (before : List ℕ) (at : ℕ) where
  -- each rule is given with one place only
  single_write : Soles (rules_for x before at)
  single_write = search singly depth 40

  -- The promise of `write` allows one number, place, count of bytes and buffer for each list, buffer and place,
  pub one_write :
      (number place bytes number' place' bytes' : ℕ) (after after' : List ℕ) →
      WriteOutcome x before at number place bytes after → WriteOutcome x before at number' place' bytes' after' →
      (number ≡ number') × (place ≡ place') × (bytes ≡ bytes') × (after ≡ after')
  unfolding WriteOutcome
  one_write zero place bytes zero place' bytes' after after' v w =
      let e = one_put v.2 w.2 in
      (refl, v.1 ∙ sym w.1, (let f : at + bytes ≡ at + bytes' = e.0 in omega (arith, f)), e.1)
  one_write zero place bytes (suc k) place' bytes' after after' v w = absurd (not_refused (rules_for x before at) v.0 (suc k) place' w.0)
  one_write (suc k) place bytes zero place' bytes' after after' v w = absurd (not_refused (rules_for x before at) w.0 (suc k) place v.0)
  one_write (suc k) place bytes (suc k') place' bytes' after after' v w =
      let e = one_refusal (rules_for x before at) single_write.single (suc k) place (suc k') place' v.0 w.0 in
      (e.0, e.1, v.1 ∙ sym w.1, v.2 ∙ sym w.2)

  -- that is, one reply,
  pub one_write_reply :
      (r t : WriteReply) (after after' : List ℕ) →
      WriteOutcome x before at r.number r.place r.bytes after → WriteOutcome x before at t.number t.place t.bytes after' → (r ≡ t) × (after ≡ after')
  one_write_reply r t after after' v w =
      let e = one_write r.number r.place r.bytes t.number t.place t.bytes after after' v w in
      (same_reply r t e.0 e.1 e.2, e.3)

  -- or one answer of Rattle's,
  pub one_wrote :
      (a b : Wrote) (after after' : List ℕ) →
      WriteOutcome x before at (number_of a) (place_of a) (bytes_of a) after → WriteOutcome x before at (number_of b) (place_of b) (bytes_of b) after' → (a ≡ b) × (after ≡ after')
  one_wrote a b after after' v w =
      let e = one_write (number_of a) (place_of a) (bytes_of a) (number_of b) (place_of b) (bytes_of b) after after' v w in
      (same_answer a b (always_proper a) (always_proper b) e.0 e.1 e.2, e.3)

  decides_write : Decides (rules_for x before at)
  decides_write = search deciding depth 40

  -- and there is one.
  pub some_write : (number : ℕ) × (place : ℕ) × (bytes : ℕ) × (after : List ℕ) × WriteOutcome x before at number place bytes after
  some_write =
      ⊎_elim
      (λ (p : Passed (rules_for x before at)). let w = all_put x before at in (0, 0, w.0, w.1, written x before at w.0 p w.2))
      (λ (g : Gives (rules_for x before at)). (g.number, g.place, 0, before, refused x before at g.number g.place g.numbered g.refused))
      (passed_or_given decides_write)
