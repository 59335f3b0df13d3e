-- The theorems, to be read: each with the plain sentence above it. The words are those of specs/; the proofs are in the modules named in the `use` lines.
-- No theorem asks that arrivals or deadlines are in any order. Nothing is assumed.
use Prim.Native.Nat.{ℕ, suc, ◌≤◌, ◌<◌, max}
use mathlib.Core.Path.{◌≡◌, sym}
use mathlib.Core.Logic.{◌⊎◌, ◌↔◌, inl, inr, ⊎_elim}
use native.Mathlib.Omega.{arith}
use native.Mathlib.Nat.{eq-or-lt_of_le, mul-pos}
use Rattle.fraction.specs.Fraction.{Fraction, ◌≼◌, ◌≺◌, ◌≈◌, whole, plus, times}
use Rattle.fraction.proofs.Scale.{cases}
use Rattle.fraction.proofs.Order.{≺_≼_absurd, ≼_≺_trans, ≈_≼, ≼_trans, whole_≼, whole_≺, ≺_plus}
use Rattle.critical.specs.Reports.{Reports, Paces, first_of, Working, Positive, steady, start, finish, Keeps, Plannable, FirstWithout}
use Rattle.critical.specs.Rows.{Row, pace, plan_of, behind, Busy, CriticalPlan, Critical}
use Rattle.critical.specs.Cost.{sum_at, Cost, Flatter, bill, NoHigher}
use Rattle.critical.proofs.Slack.{slack_at}
use Rattle.critical.proofs.Runs.{arrives}
use Rattle.critical.proofs.Room.{TimelyTo, Roomy, plan_timely, timely_plan, stops_first, first_timely, first_stops, runs, shorter, timely_roomy, roomy_timely}
use Rattle.critical.proofs.Best.{◌≻◌, ◌≽◌, Best}
use Rattle.critical.proofs.Search.{Stretch, Found, Leaves, Ready, Scan, way, floor, high, low, row_of}
use Rattle.critical.proofs.Cover.{few_rows}
use Rattle.critical.proofs.Chain.{Chain, Link}
use Rattle.critical.proofs.Least as Least
use Rattle.critical.proofs.Costs as Costs
use Rattle.critical.proofs.Search as Search
use Rattle.critical.proofs.Chain as Chains
use Rattle.critical.proofs.Exists as Exists
use Rattle.critical.proofs.Unique as Unique
use Rattle.critical.proofs.Table as Table

-- ---- Demand 3: no rival does better

-- The strong inequality: at every threshold our sum, and what the rival strays to the wrong side of it, are together no more than the rival's sum.
pub strong_inequality :
    (ℓ : Reports) (fastest : Fraction) (ours rival : Paces) (c : Fraction) →
    CriticalPlan ℓ fastest ours → Keeps ℓ rival →
    plus (sum_at ℓ c ours) (slack_at ℓ c ours rival) ≼ sum_at ℓ c rival
strong_inequality ℓ fastest ours rival c = Least.strong_sums ℓ ours rival c fastest

-- At every threshold pace the sum of operations times shortfall is least among all plans that keep the list.
pub least_sum :
    (ℓ : Reports) (fastest : Fraction) (ours rival : Paces) (c : Fraction) →
    CriticalPlan ℓ fastest ours → Keeps ℓ rival →
    sum_at ℓ c ours ≼ sum_at ℓ c rival
least_sum ℓ fastest ours rival c = Least.least_sums ℓ ours rival c fastest

-- So no cost that falls in ever flatter straight pieces can be lowered.
pub least_cost :
    (ℓ : Reports) (fastest : Fraction) (ours rival : Paces) (c : Cost) →
    Flatter c.pieces c.rest → CriticalPlan ℓ fastest ours → Keeps ℓ rival →
    NoHigher (bill ℓ c ours) (bill ℓ c rival)
least_cost ℓ fastest ours rival c = Costs.least_cost ℓ ours rival c fastest

-- It is the sums that decide: a plan whose sum is at no threshold greater than a rival's costs no more than it, by every such cost.
pub cost_by_sums :
    (ℓ : Reports) (plan rival : Paces) (c : Cost) →
    Flatter c.pieces c.rest → ((x : Fraction) → sum_at ℓ x plan ≼ sum_at ℓ x rival) →
    NoHigher (bill ℓ c plan) (bill ℓ c rival)
cost_by_sums = Costs.sums_cost

-- ---- There is at most one

-- Two critical plans of a list have equal paces for every report, whatever their fastest paces.
pub one_plan :
    (ℓ : Reports) (f g : Fraction) (T U : Paces) →
    Working ℓ → CriticalPlan ℓ f T → CriticalPlan ℓ g U → (i : ℕ) → i < ℓ.count →
    T i ≈ U i
one_plan = Least.one_plan

-- Two lists of rows that are `Critical` are one: as many rows, and each row the same five numbers.
pub one_list_of_rows :
    (ℓ : Reports) (f g : Fraction) (m n : ℕ) (rows others : ℕ → Row) →
    Working ℓ → Critical ℓ f m rows → Critical ℓ g n others →
    (m ≡ n) × ((k : ℕ) → k < m → rows k ≡ others k)
one_list_of_rows ℓ f g m n rows others working c d =
    let e : m ≡ n = Unique.one_count ℓ working f g m n rows others c d in
    (e, λ k h. Unique.one_row ℓ working f g m n rows others c d k h (omega arith))

-- ---- When there is a plan

-- Reports 0 to n − 1 have an allowed plan exactly when the pass at the fastest pace holds at each of them.
pub pass_decides :
    (ℓ : Reports) (fastest : Fraction) (n : ℕ) →
    Positive fastest →
    Plannable (first_of n ℓ) fastest ↔ TimelyTo ℓ fastest n
pass_decides ℓ fastest n pos = (plan_timely ℓ fastest n, timely_plan ℓ fastest pos n)

-- The least i without a plan is the report where the pass first fails, and no other.
pub first_failure :
    (ℓ : Reports) (fastest : Fraction) (i : ℕ) →
    Positive fastest →
    FirstWithout ℓ fastest i ↔ ((i < ℓ.count) × TimelyTo ℓ fastest i × (whole (ℓ.deadline i) ≺ finish ℓ (steady fastest) i))
first_failure ℓ fastest i pos =
    (λ w. (w.on_list, first_timely ℓ fastest pos i w, first_stops ℓ fastest pos i w), λ h. stops_first ℓ fastest pos i h.0 h.1 h.2)

-- A list has an allowed plan or a first report without one.
pub plan_or_refusal :
    (ℓ : Reports) (fastest : Fraction) →
    Positive fastest →
    Plannable ℓ fastest ⊎ ((i : ℕ) × FirstWithout ℓ fastest i)
plan_or_refusal ℓ fastest pos = ⊎_elim (λ h. inl (timely_plan ℓ fastest pos ℓ.count h)) inr (runs ℓ fastest pos ℓ.count (omega arith))

-- It has not both.
pub not_both : (ℓ : Reports) (fastest : Fraction) (i : ℕ) → Plannable ℓ fastest → FirstWithout ℓ fastest i → ⊥
not_both ℓ fastest i p w = w.without (shorter ℓ fastest (suc i) w.on_list p)

-- And it is refused at one place only.
pub one_place :
    (ℓ : Reports) (fastest : Fraction) (i j : ℕ) →
    FirstWithout ℓ fastest i → FirstWithout ℓ fastest j →
    i ≡ j
one_place ℓ fastest i j v w =
    cases i j (λ h. absurd (v.without (w.least i h))) (λ h. ⊎_elim (λ (e : j ≡ i). sym e) (λ l. absurd (w.without (v.least j l))) (eq-or-lt_of_le h))

-- A plan is allowed only if the list is roomy; and if it is, there is one.
pub room_decides :
    (ℓ : Reports) (fastest : Fraction) →
    Positive fastest →
    Plannable ℓ fastest ↔ Roomy ℓ fastest
room_decides ℓ fastest pos =
    (λ p. timely_roomy ℓ fastest (plan_timely ℓ fastest ℓ.count p), λ r. timely_plan ℓ fastest pos ℓ.count (roomy_timely ℓ fastest r))

-- A report whose deadline is not behind its arrival has no plan at all.
pub no_time :
    (ℓ : Reports) (T : Paces) (i : ℕ) →
    Working ℓ → i < ℓ.count → ℓ.deadline i ≤ ℓ.arrival i → Keeps ℓ T →
    ⊥
unfolding times
no_time ℓ T i working h late keeps =
    ≺_≼_absurd (≼_≺_trans (≼_trans (whole_≼ late) (arrives ℓ T i)) (≺_plus (start ℓ T i) (times (ℓ.operations i) (T i)) (mul-pos (working i h) (keeps.positive i h)))) (keeps.in_time i h)

-- ---- The search

-- What the search finds: from time s and report p on, in a stretch that ends at k and is in time at the fastest pace, there is a next block.
pub search_finds :
    (ℓ : Reports) (fastest : Fraction) (s p k : ℕ) →
    Stretch ℓ p k → 0 < ℓ.operations p → Ready ℓ fastest s p k →
    (q : ℕ) × (e : ℕ) × Found ℓ fastest k (row_of ℓ s p q e)
search_finds = Search.search_finds

-- Its steps: it begins with the first report, and each report either ends it, at the last report with the least high or with the greatest low, or joins.
pub search_begins : (ℓ : Reports) (s p k : ℕ) → Stretch ℓ p k → Scan ℓ s p k (suc p) p p
search_begins = Search.scan_first

pub search_joins :
    (ℓ : Reports) (s p k : ℕ) → Stretch ℓ p k → (j h l : ℕ) → Scan ℓ s p k j h l → (h' l' : ℕ) → j ≤ k →
    low ℓ s p k j ≼ high ℓ s p h → low ℓ s p k l ≼ high ℓ s p j →
    Best ◌≺◌ ◌≼◌ (high ℓ s p) p (suc j) h' → Best ◌≻◌ ◌≽◌ (low ℓ s p k) p (suc j) l' →
    Scan ℓ s p k (suc j) h' l'
search_joins = Search.scan_more

pub search_ends_by_rise :
    (ℓ : Reports) (fastest : Fraction) (s p k : ℕ) →
    Stretch ℓ p k → 0 < ℓ.operations p → Ready ℓ fastest s p k → (j h l : ℕ) → Scan ℓ s p k j h l → j ≤ k →
    high ℓ s p h ≺ low ℓ s p k j →
    Found ℓ fastest k (row_of ℓ s p h (ℓ.deadline h))
search_ends_by_rise = Search.finds_rise

pub search_ends_by_fall :
    (ℓ : Reports) (fastest : Fraction) (s p k : ℕ) →
    Stretch ℓ p k → 0 < ℓ.operations p → Ready ℓ fastest s p k → (j h l : ℕ) → Scan ℓ s p k j h l → j ≤ k →
    high ℓ s p j ≺ low ℓ s p k l →
    Found ℓ fastest k (row_of ℓ s p l (ℓ.arrival (suc l)))
search_ends_by_fall = Search.finds_fall

pub search_ends_whole :
    (ℓ : Reports) (fastest : Fraction) (s p k : ℕ) →
    Stretch ℓ p k → 0 < ℓ.operations p → Ready ℓ fastest s p k → (j h l : ℕ) → Scan ℓ s p k j h l → j ≡ suc k →
    Found ℓ fastest k (row_of ℓ s p k (ℓ.deadline k))
search_ends_whole = Search.finds_whole

-- Ready goes on: behind a block that was found the next search can begin, at the later of the next arrival and the block's end.
pub ready_goes_on :
    (ℓ : Reports) (fastest : Fraction) (r : Row) (s p k : ℕ) →
    Roomy ℓ fastest → 0 < ℓ.operations r.first → Link ℓ fastest s p r → Stretch ℓ (suc r.last) k →
    Ready ℓ fastest (max (ℓ.arrival (suc r.last)) r.end) (suc r.last) k
ready_goes_on ℓ fastest r s p k roomy working l = Chains.ready_behind ℓ fastest s p r l roomy working k

-- The exit lemma: a block whose line leaves below leads, in its stretch, into a slower block.
pub exit_slower :
    (ℓ : Reports) (fastest : Fraction) (k : ℕ) (r next : Row) →
    Stretch ℓ r.first k → Found ℓ fastest k r → Found ℓ fastest k next → 0 < ℓ.operations r.first →
    0 < ℓ.operations next.first → next.first ≡ suc r.last → next.start ≡ r.end →
    Leaves ◌≺◌ (way ℓ r) ℓ.deadline (floor ℓ k) r.last k →
    pace r ≺ pace next
exit_slower ℓ fastest k r next st fd fd' w w' = Search.leads_slower ℓ fastest r.first k st r next fd fd' w w' fd.ordered

-- Its mirror image: a block whose line leaves above leads into a faster one.
pub exit_faster :
    (ℓ : Reports) (fastest : Fraction) (k : ℕ) (r next : Row) →
    Stretch ℓ r.first k → Found ℓ fastest k r → Found ℓ fastest k next → 0 < ℓ.operations r.first →
    0 < ℓ.operations next.first → next.first ≡ suc r.last → next.start ≡ r.end →
    Leaves ◌≻◌ (way ℓ r) (floor ℓ k) ℓ.deadline r.last k →
    pace next ≺ pace r
exit_faster ℓ fastest k r next st fd fd' w w' = Search.leads_faster ℓ fastest r.first k st r next fd fd' w w' fd.ordered

-- A chain of found blocks that covers the list is `Critical`.
pub chain_critical :
    (ℓ : Reports) (fastest : Fraction) (m : ℕ) (rows : ℕ → Row) →
    Working ℓ → Positive fastest → Chain ℓ fastest m rows → behind rows m ≡ ℓ.count →
    Critical ℓ fastest m rows
chain_critical ℓ fastest m rows working pos ch = Chains.chain_critical ℓ fastest m rows ch working pos

-- ---- Demand 2: there is one exactly when some allowed plan exists

pub critical_exists :
    (ℓ : Reports) (fastest : Fraction) →
    Working ℓ → Positive fastest →
    ((m : ℕ) × (rows : ℕ → Row) × Critical ℓ fastest m rows) ↔ Plannable ℓ fastest
critical_exists ℓ fastest working pos =
    (λ c. (plan_of c.0 c.1, c.2.plan.allowed), λ p. Exists.exists ℓ fastest ((room_decides ℓ fastest pos).0 p) working pos)

-- ---- What else 01 says of blocks

-- The block count is at most the number of reports.
pub few_blocks : (ℓ : Reports) (fastest : Fraction) (m : ℕ) (rows : ℕ → Row) → Critical ℓ fastest m rows → m ≤ ℓ.count
few_blocks ℓ fastest m rows c =
    omega (arith, few_rows m rows (record { follows = c.follows; holds = c.holds }) m (omega arith), c.covers)

-- Where the arrival of i+1 is later than the deadline of i there is idle time (property 1).
pub idle_there :
    (ℓ : Reports) (fastest : Fraction) (T : Paces) (i : ℕ) →
    CriticalPlan ℓ fastest T → suc i < ℓ.count → ℓ.deadline i < ℓ.arrival (suc i) →
    finish ℓ T i ≺ whole (ℓ.arrival (suc i))
idle_there ℓ fastest T i c h g = ≼_≺_trans (≈_≼ (c.one_idle i h g)) (whole_≺ g)

-- Inside a row there is no idle time, and one pace: the row's.
pub busy_inside :
    (ℓ : Reports) (fastest : Fraction) (m : ℕ) (rows : ℕ → Row) →
    Working ℓ → Critical ℓ fastest m rows → (k i : ℕ) → k < m → (rows k).first ≤ i → i < (rows k).last →
    Busy ℓ (plan_of m rows) i
busy_inside ℓ fastest m rows working c k i h = Unique.busy_inside ℓ fastest m rows c working k h i

pub pace_inside :
    (ℓ : Reports) (fastest : Fraction) (m : ℕ) (rows : ℕ → Row) →
    Critical ℓ fastest m rows → (k i : ℕ) → k < m → (rows k).first ≤ i → i ≤ (rows k).last →
    plan_of m rows i ≡ pace (rows k)
pace_inside = Unique.in_row

-- ---- 01's table
-- The eleven starred rows.
pub starred_table : Table.AllRight Table.starred
starred_table = Table.starred_right

-- Sixteen wrong answers are none of them right; the first fourteen each break one condition of `Critical` alone.
pub wrong_answers : Table.NoneRight Table.wrong
wrong_answers = Table.wrong_refuted
