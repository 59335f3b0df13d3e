-- The file rules: what they leave where none is given, and the trailer's answer by them.
-- Assumes nothing.
use Prim.Native.Nat.{ℕ, ◌+◌, ◌*◌, ◌≤◌, ◌<◌}
use mathlib.Core.Path.{◌≡◌, refl, subst, subst₂}
use mathlib.Core.Bool.{Bool, true}
use mathlib.Core.List.{List, [], ◌∷◌}
use mathlib.Core.Logic.{inl, inr}
use native.Mathlib.Omega.{arith}
use native.Mathlib.Decide.{ℕ_discrete}
use lib.ListN.{length}
use denote.Ref.{Bor}
use Rattle.answers.specs.Numbers.{number}
use Rattle.answers.specs.declared.Fault.TheVariants.{ShortRoll}
use Rattle.answers.specs.declared.Refusal.{Refusal}
use Rattle.std.specs.Prelude.{Ok, Err}
use Rattle.std.proofs.lemmas.List.{nil_from_length}
use Rattle.trials.specs.Rules.{Refused, Accepted, Refuses}
use Rattle.trials.specs.Tries.{Tells, Verdict, RefuseIf, After}
use Rattle.trials.proofs.Passing.{Passed, Quiet, finding, heads, both, untrue}
use Rattle.trials.proofs.Trying.{refused_first, refused_later, overall_cons, after_none, passed, refuses}
use Rattle.trials.proofs.Single.{not_refused}
use Rattle.fraction.proofs.Scale.{cases}
use Rattle.roll.specs.Format.{mark, ends_in, has_floor, trailer_long, back_of, count_of, records_at, records_long, short_rule, back_rule, far_rule, trailer_rules, file_rules}
use Rattle.roll.specs.Answers.{PartFrom, PartIs, TrailerAnswerIs, EndingIs}
use Rattle.roll.specs.declared.Ending.{Ending}
use Rattle.roll.proofs.Marking.{with_floor, without_floor, trailer_range, plain_mark}

-- ---- what an accepted file says, with a trailer of so many bytes
pub record FileIs (s : List ℕ) (trailer : ℕ) : Type 0 where
  pub long : trailer ≤ length s
  pub back_is : back_of s ≡ trailer + 12 * count_of s
  pub back_in : back_of s ≤ length s

pub file_is : (s : List ℕ) → Passed (file_rules s) → FileIs s (trailer_long s)
file_is s p =
    let short : Quiet (short_rule s) = search finding depth 40 in
    let back : Quiet (back_rule s) = search finding depth 40 in
    let far : Quiet (far_rule s) = search finding depth 40 in
    record {
      long = cases (length s) (trailer_long s) (λ h. absurd (untrue short h)) (λ g. g);
      back_is = elim (ℕ_discrete (back_of s) (trailer_long s + 12 * count_of s)) [ yes e ↦ e | no h ↦ absurd (untrue back h) ];
      back_in = cases (length s) (back_of s) (λ h. absurd (untrue far h)) (λ g. g);
    }

-- one that is marked AF has room for R and T
pub long_with_floor : (s : List ℕ) → Accepted (file_rules s) → has_floor s ≡ true → 20 ≤ length s
long_with_floor s a e = omega (arith, (file_is s (record { accepted = a })).long, (with_floor s e).0)

-- one that is marked AQ
pub plain_file : (s : List ℕ) → ends_in s mark ≡ true → Passed (file_rules s) → FileIs s 16
plain_file s m p = subst (FileIs s) (without_floor s (plain_mark s m)).0 (file_is s p)

-- ---- the file rules, tried in two parts: the first of them, and those of the trailer
module _ (s : List ℕ) {v : Verdict} where
  pub first_tried : {b : Bool} → RefuseIf b ShortRoll v → Tells (length s < trailer_long s) b → After (Ok tt) (short_rule s ∷ []) v
  first_tried o t = overall_cons o t refl after_none

  -- the roll is too short
  pub too_short : {a : Refusal} → After (Ok tt) (short_rule s ∷ []) v → v ≡ Err a → Refuses (file_rules s) a
  too_short {a} t e = record { refused = refused_first (short_rule s ∷ []) (trailer_rules s) (number a.fault) a.place (refuses t e).refused }

  -- it is not
  pub long_enough : After (Ok tt) (short_rule s ∷ []) v → v ≡ Ok tt → length s < trailer_long s → ⊥
  long_enough t e = untrue (heads (passed t e))

  -- then the rules of the trailer decide
  module _ {w : Verdict} (t : After (Ok tt) (short_rule s ∷ []) v) (e : v ≡ Ok tt) (u : After (Ok tt) (trailer_rules s) w) where
    pub refused_trailer : {a : Refusal} → w ≡ Err a → Refuses (file_rules s) a
    refused_trailer {a} f = record { refused = refused_later (short_rule s ∷ []) (trailer_rules s) (number a.fault) a.place (passed t e).accepted (refuses u f).refused }

    pub passed_trailer : w ≡ Ok tt → Accepted (file_rules s)
    passed_trailer f = (both (short_rule s ∷ []) (trailer_rules s) (passed t e) (passed u f)).accepted

-- ---- the trailer's answer
module _ (s : List ℕ) where
  pub too_short_answer : length s < trailer_long s → TrailerAnswerIs s (Err (record { fault = ShortRoll; place = 0 }))
  unfolding TrailerAnswerIs Refused
  too_short_answer h = record { refused = inl (refl, (h, refl)) }

  pub refused_trailer_answer : (length s < trailer_long s → ⊥) → {a : Refusal} → Refuses (trailer_rules s) a → TrailerAnswerIs s (Err a)
  unfolding TrailerAnswerIs Refused
  refused_trailer_answer long r = record { refused = inr (λ place g. long g.0, r.refused) }

pub trailer_there : {s : List ℕ} {e : Ending} → Accepted (file_rules s) → EndingIs s e → TrailerAnswerIs s (Ok e)
unfolding TrailerAnswerIs
trailer_there a e = (a, e)

pub trailer_refused : {s : List ℕ} {a : Refusal} → Refuses (file_rules s) a → TrailerAnswerIs s (Err a)
unfolding TrailerAnswerIs
trailer_refused r = r

-- ---- the part with the records
-- it is inside the roll
pub fits_part : (s : List ℕ) → Accepted (file_rules s) → records_at s + records_long s ≤ length s
fits_part s a = let f = file_is s (record { accepted = a }) in omega (arith, f.back_is, f.back_in)

-- it begins where the trailer says, and the trailer is there
pub reaches : (s : List ℕ) → Accepted (file_rules s) → (16 ≤ length s) × (back_of s ≤ length s)
reaches s a = let f = file_is s (record { accepted = a }) in (omega (arith, (trailer_range s).0, f.long), f.back_in)

-- the part that the code cuts out is the one with the records
pub cut_part : {s part : Bor (List ℕ)} {at size : ℕ} → Accepted (file_rules s.now) → PartFrom s at size part → at ≡ records_at s.now → size ≡ records_long s.now → PartIs s part
cut_part {s} {part} a r p q = record {
  accepted = λ _. subst₂ (λ (m n : ℕ). PartFrom s m n part) p q r;
  refused = λ number place h. absurd (not_refused (file_rules s.now) a number place h);
}

-- on a refusal there is none
pub refused_part : {s part : Bor (List ℕ)} {a : Refusal} → Refuses (file_rules s.now) a → length part.now ≡ 0 → part.ref_ptr ≡ (s.ref_ptr.0, 0 + s.ref_ptr.1) → PartIs s part
refused_part {s} {part} {a} r none lies = record {
  accepted = λ q. absurd (not_refused (file_rules s.now) q (number a.fault) a.place r.refused);
  refused = λ _ _ _. record { bytes = nil_from_length part.now none; lies = lies };
}
