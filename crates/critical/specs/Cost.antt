-- The sum at a threshold pace, and costs that fall in ever flatter straight pieces (demand 3).
-- Assumes nothing.
use Rattle.std.specs.Prelude.{ℕ, zero, suc, List, [], ◌∷◌}
use Rattle.fraction.specs.Fraction.{Fraction, ◌≼◌, whole, plus, times, less, product}
use Rattle.critical.specs.Reports.{Reports, Paces}

-- The sum, over the first n reports, of operations times an amount for each.
unfoldable pub total : Reports → (ℕ → Fraction) → ℕ → Fraction
total ℓ g zero = whole zero
total ℓ g (suc n) = plus (total ℓ g n) (times (ℓ.operations n) (g n))

-- The sum at threshold c: operations times shortfall, which is c less the pace, nil where the pace is not below c.
abbrev pub sum_at : Reports → Fraction → Paces → Fraction
sum_at ℓ c T = total ℓ (λ i. less c (T i)) ℓ.count

-- A straight piece of a cost: it reaches up to a pace, and over it the cost falls by so much for each unit of pace.
pub record Piece : Type 0 where
  pub reach : Fraction
  pub fall : Fraction

-- A cost per operation, by its straight pieces: what it is at pace nil, the pieces in order, and the fall of the last piece, which has no end
-- (nil where the cost stays level).
pub record Cost : Type 0 where
  pub top : Fraction
  pub pieces : List Piece
  pub rest : Fraction

-- Each piece reaches no less far than the one before, and is no steeper.
unfoldable pub Flatter : List Piece → Fraction → Type 0
Flatter [] rest = Unit {0}
Flatter (p ∷ []) rest = rest ≼ p.fall
Flatter (p ∷ (q ∷ ps)) rest = (p.reach ≼ q.reach) × (q.fall ≼ p.fall) × Flatter (q ∷ ps) rest

-- How far the cost has fallen at pace x, along the pieces that begin at pace from: each piece falls over what of x lies in it.
unfoldable pub fallen : Fraction → List Piece → Fraction → Fraction → Fraction
fallen from [] rest x = product rest (less x from)
fallen from (p ∷ ps) rest x = plus (product p.fall (less (less x from) (less x p.reach))) (fallen p.reach ps rest x)

-- What a plan costs, which may lie below nil: in full, as if every pace were nil, and what comes off because the cost has fallen.
pub record Bill : Type 0 where
  pub full : Fraction
  pub off : Fraction

-- The bill of a plan: operations times cost per operation, over the reports.
abbrev pub bill : Reports → Cost → Paces → Bill
bill ℓ c T = record {
  full = total ℓ (λ i. c.top) ℓ.count;
  off = total ℓ (λ i. fallen (whole zero) c.pieces c.rest (T i)) ℓ.count;
}

-- One bill is no higher than another: full less off is at most full' less off', with what comes off added on the other side.
abbrev pub NoHigher : Bill → Bill → Type 0
NoHigher b b' = plus b.full b'.off ≼ plus b'.full b.off
