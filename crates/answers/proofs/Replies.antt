-- An answer in 01's numbers: what holds of the one holds of the other, there is one, and it is told by its numbers.
-- Assumes nothing.
use Prim.Native.Nat.{ℕ, ◌<◌}
use mathlib.Core.Path.{◌≡◌, refl, sym, ◌∙◌, ap, subst}
use mathlib.Core.List.{List, [], ◌∷◌}
use native.Mathlib.Omega.{arith}
use lib.ListN.{get_or}
use Rattle.std.specs.Prelude.{Ok, Err}
use Rattle.answers.specs.Numbers.{Answer, number, number_of, place_of, blocks_of, Proper, InNumbers}
use Rattle.answers.specs.declared.Fault.{Fault}
use Rattle.answers.specs.declared.Fault.TheVariants.{Lengths, TooMany, ShortBuffer, BadPace, BadOperations, BadArrival, BadDeadline, ArrivalFalls, NoPlan, ShortRoll, BadMark, BadBack, TooFar, TooLong, NoRoom, BadFloor, FloorBelow}
use Rattle.answers.specs.declared.Refusal.{Refusal}
use Rattle.answers.specs.declared.Reply.{Reply}

-- a statement of three numbers holds of three that are equal to them
same : (F : ℕ → ℕ → ℕ → Type 0) (x y z a b c : ℕ) → x ≡ a → y ≡ b → z ≡ c → F x y z → F a b c
same F x y z a b c e e' e'' f = subst (λ (k : ℕ). F k b c) e (subst (λ (k : ℕ). F x k c) e' (subst (λ (k : ℕ). F x y k) e'' f))

pub to_answer : (F : ℕ → ℕ → ℕ → Type 0) {a : Answer} {r : Reply} → InNumbers a r → F r.number r.place r.blocks → F (number_of a) (place_of a) (blocks_of a)
to_answer F i f = same F _ _ _ _ _ _ i.number_is i.place_is i.blocks_is f

pub to_reply : (F : ℕ → ℕ → ℕ → Type 0) {a : Answer} {r : Reply} → InNumbers a r → F (number_of a) (place_of a) (blocks_of a) → F r.number r.place r.blocks
to_reply F i f = same F _ _ _ _ _ _ (sym i.number_is) (sym i.place_is) (sym i.blocks_is) f

-- ---- a reply, and an answer, is told by its three numbers
reply : ℕ → ℕ → ℕ → Reply
reply number place blocks = record { number = number; place = place; blocks = blocks }

pub same_reply : (r s : Reply) → r.number ≡ s.number → r.place ≡ s.place → r.blocks ≡ s.blocks → r ≡ s
unfolding reply
same_reply r s e e' e'' = ap (λ (k : ℕ). reply k r.place r.blocks) e ∙ ap (λ (k : ℕ). reply s.number k r.blocks) e' ∙ ap (reply s.number s.place) e''

-- The promise of `Reply::from` allows one reply.
pub one_reply : (a : Answer) (r s : Reply) → InNumbers a r → InNumbers a s → r ≡ s
one_reply a r s i j = same_reply r s (i.number_is ∙ sym j.number_is) (i.place_is ∙ sym j.place_is) (i.blocks_is ∙ sym j.blocks_is)

-- ---- what a refusal is given for is told by its number
faults : List Fault
faults =
    Lengths
    ∷ Lengths
    ∷ TooMany
    ∷ ShortBuffer
    ∷ BadPace
    ∷ BadOperations
    ∷ BadArrival
    ∷ BadDeadline
    ∷ ArrivalFalls
    ∷ NoPlan
    ∷ ShortRoll
    ∷ BadMark
    ∷ BadBack
    ∷ TooFar
    ∷ TooLong
    ∷ NoRoom
    ∷ BadFloor
    ∷ FloorBelow
    ∷ []

-- It stands in the list at its number, which is above 0.
known : (f : Fault) → (get_or faults (number f) Lengths ≡ f) × (0 < number f)
unfolding faults
known Lengths = (refl, omega arith)
known TooMany = (refl, omega arith)
known ShortBuffer = (refl, omega arith)
known BadPace = (refl, omega arith)
known BadOperations = (refl, omega arith)
known BadArrival = (refl, omega arith)
known BadDeadline = (refl, omega arith)
known ArrivalFalls = (refl, omega arith)
known NoPlan = (refl, omega arith)
known ShortRoll = (refl, omega arith)
known BadMark = (refl, omega arith)
known BadBack = (refl, omega arith)
known TooFar = (refl, omega arith)
known TooLong = (refl, omega arith)
known NoRoom = (refl, omega arith)
known BadFloor = (refl, omega arith)
known FloorBelow = (refl, omega arith)

refusal : Fault → ℕ → Refusal
refusal fault place = record { fault = fault; place = place }

-- A refusal is told by its number and its place.
pub same_refusal : {a b : Refusal} → number a.fault ≡ number b.fault → a.place ≡ b.place → a ≡ b
unfolding refusal
same_refusal {a} {b} e e' = ap (λ (f : Fault). refusal f a.place) (sym (known a.fault).0 ∙ ap (λ (k : ℕ). get_or faults k Lengths) e ∙ (known b.fault).0) ∙ ap (refusal b.fault) e'

-- Every refusal has a number above 0, so every answer is proper.
pub numbered : (f : Fault) → 0 < number f
numbered f = (known f).1

pub always_proper : (a : Answer) → Proper a
always_proper (Ok blocks) = tt
always_proper (Err refusal) = numbered refusal.fault

-- Two answers with the same numbers are the same answer.
pub same_answer : (a b : Answer) → Proper a → Proper b → number_of a ≡ number_of b → place_of a ≡ place_of b → blocks_of a ≡ blocks_of b → a ≡ b
same_answer (Ok m) (Ok n) p q e e' e'' = ap Ok e''
same_answer (Ok m) (Err r) p q e e' e'' = absurd (omega (arith, e, q))
same_answer (Err r) (Ok n) p q e e' e'' = absurd (omega (arith, e, p))
same_answer (Err r) (Err s) p q e e' e'' = ap Err (same_refusal e e')
