-- The strong inequality in fractions, and what follows of plans: least sums, and one critical plan.
-- Assumes nothing.
use Prim.Native.Nat.{ℕ, ◌*◌, ◌<◌}
use native.Mathlib.Nat.{mul-pos, le_refl, le_antisymm}
use Rattle.fraction.specs.Fraction.{Fraction, ◌≼◌, ◌≈◌, whole, plus}
use Rattle.fraction.proofs.Scale.{At, at_plus, at_less, at_le, at_eq, scaled, at_scaled, fits_den, fits_left, fits_right, scale, scale_pos, scale_fits}
use Rattle.fraction.proofs.Order.{≼_trans, ≼_plus_left}
use Rattle.critical.specs.Reports.{Reports, Paces, Keeps, Working}
use Rattle.critical.specs.Rows.{sum, CriticalPlan}
use Rattle.critical.specs.Cost.{sum_at}
use Rattle.critical.proofs.Slack.{slack_at}
use Rattle.critical.proofs.Numbers.{ours, strays, strong, same_pace}
use Rattle.critical.proofs.Scaled.{AtAll, arrivals, deadlines, at_total, joints, in_time, at_stray}

-- two plans and a threshold at one scale
module _ (ℓ : Reports) (T U : Paces) (c : Fraction) where
  abbrev n : ℕ
  n = ℓ.count

  pub common : ℕ
  common = scale T n * (scale U n * c.den)

  pub common_pos : 0 < common
  unfolding common
  common_pos = mul-pos (scale_pos T n) (mul-pos (scale_pos U n) c.proper)

  pub at_ours : AtAll common T n (λ i. scaled common (T i))
  unfolding common
  at_ours i h = at_scaled (fits_left _ (scale_fits T n i h))

  pub at_rival : AtAll common U n (λ i. scaled common (U i))
  unfolding common
  at_rival i h = at_scaled (fits_right _ (fits_left _ (scale_fits U n i h)))

  pub at_threshold : At common c (scaled common c)
  unfolding common
  at_threshold = at_scaled (fits_right _ (fits_den c _))

  abbrev C : ℕ
  C = scaled common c

  abbrev t : ℕ → ℕ
  t i = scaled common (T i)

  abbrev u : ℕ → ℕ
  u i = scaled common (U i)

  at_sum : {R : Paces} {v : ℕ → ℕ} → AtAll common R n v → At common (sum_at ℓ c R) (sum (ours ℓ.operations v C) n)
  at_sum av = at_total ℓ common_pos (λ i h. at_less common_pos at_threshold (av i h)) n (le_refl n)

  at_slack : At common (slack_at ℓ c T U) (sum (strays ℓ.operations t u C) n)
  at_slack = at_total ℓ common_pos (λ i h. at_stray common_pos at_threshold (at_ours i h) (at_rival i h)) n (le_refl n)

  -- our sum and what the rival strays are together no more than the rival's sum
  pub strong_sums : (fastest : Fraction) → CriticalPlan ℓ fastest T → Keeps ℓ U → plus (sum_at ℓ c T) (slack_at ℓ c T U) ≼ sum_at ℓ c U
  strong_sums fastest crit keeps =
      at_le (at_plus (at_sum at_ours) at_slack) (at_sum at_rival) common_pos
      (strong (arrivals ℓ common) (deadlines ℓ common) ℓ.operations t u C n (joints ℓ common_pos at_ours fastest crit)
      (in_time ℓ common_pos at_rival keeps))

  pub least_sums : (fastest : Fraction) → CriticalPlan ℓ fastest T → Keeps ℓ U → sum_at ℓ c T ≼ sum_at ℓ c U
  least_sums fastest crit keeps = ≼_trans (≼_plus_left (sum_at ℓ c T) (slack_at ℓ c T U)) (strong_sums fastest crit keeps)

-- two critical plans have equal paces
pub one_plan : (ℓ : Reports) (f g : Fraction) (T U : Paces) → Working ℓ → CriticalPlan ℓ f T → CriticalPlan ℓ g U → (i : ℕ) → i < ℓ.count → T i ≈ U i
one_plan ℓ f g T U working p q i h =
    let z : Fraction = whole 0 in
    let M : ℕ = common ℓ T U z in
    let pos : 0 < M = common_pos ℓ T U z in
    let at : AtAll M T ℓ.count (λ i. scaled M (T i)) = at_ours ℓ T U z in
    let au : AtAll M U ℓ.count (λ i. scaled M (U i)) = at_rival ℓ T U z in
    let j = joints ℓ pos at f p in
    let k = in_time ℓ pos at p.allowed.keeps in
    let j' = joints ℓ pos au g q in
    let k' = in_time ℓ pos au q.allowed.keeps in
    at_eq pos (at i h) (au i h)
    (le_antisymm (same_pace (arrivals ℓ M) (deadlines ℓ M) ℓ.operations _ _ ℓ.count j k j' k' working i h)
    (same_pace (arrivals ℓ M) (deadlines ℓ M) ℓ.operations _ _ ℓ.count j' k' j k working i h))
