-- Offsets for readings: what holds of the lists of the ones holds of the others.
-- Assumes nothing.
use Rattle.std.proofs.Common.{◌≡◌, ℕ, List, map, length, take, sym, ap, ◌∙◌, subst, subst₂, arith}
use Rattle.fraction.specs.Fraction.{Fraction}
use Rattle.critical.specs.Reports.{list_of}
use Rattle.rules.specs.Offsets.{offset, offsets_of}
use Rattle.rules.specs.Rules.{report_rules}
use Rattle.rules.specs.Leaves.{Sized}
use Rattle.planner.specs.Outcome.{Outcome}
use Rattle.lists.proofs.Filling.{length-map}

-- the front of a scratch array is the list of offsets
pub front : (g : ℕ → ℕ) (from to : List ℕ) (n : ℕ) → length from ≡ n → take (length from) to ≡ map g from → take n to ≡ map g from
front g from to n e p = subst (λ (k : ℕ). take k to ≡ map g from) e p

pub front_long : (g : ℕ → ℕ) (from to : List ℕ) (n : ℕ) → length from ≡ n → take (length from) to ≡ map g from → n ≡ length (take n to)
front_long g from to n e p = sym (ap length (front g from to n e p) ∙ length-map g from ∙ e)

pub sized_offsets : (g : ℕ → ℕ) (xs ys ws zs us before : List ℕ) → us ≡ map g xs → zs ≡ map g ys → Sized xs ys ws before → Sized us zs ws before
sized_offsets g xs ys ws zs us before e e' s =
    let a : length us ≡ length xs = ap length e ∙ length-map g xs in
    let b : length zs ≡ length ys = ap length e' ∙ length-map g ys in
    record {
      even = record { deadlines_long = b ∙ s.even.deadlines_long ∙ sym a; operations_long = s.even.operations_long ∙ sym a };
      few = omega (arith, a, s.few);
      room = omega (arith, a, s.room);
    }

pub outcome_offsets :
    (reference : ℕ) (xs ys ws zs us : List ℕ) (f : Fraction) (before : List ℕ) (number place blocks : ℕ) (after : List ℕ) →
    us ≡ map (offset reference) xs → zs ≡ map (offset reference) ys →
    Outcome (report_rules (list_of us zs ws) f) (list_of us zs ws) f before number place blocks after →
    Outcome (report_rules (offsets_of reference xs ys ws) f) (offsets_of reference xs ys ws) f before number place blocks after
outcome_offsets reference xs ys ws zs us f before number place blocks after e e' o =
    subst₂ (λ (a b : List ℕ). Outcome (report_rules (list_of a b ws) f) (list_of a b ws) f before number place blocks after) e e' o
