-- The outer loop of `blocks::blocks`: what it has built, row after row.
-- Assumes nothing.
use Rattle.std.proofs.Common.{◌≡◌, ℕ, suc, ◌+◌, ◌*◌, ◌<◌, ◌≤◌, max, List, length, get_or, sym, refl, ap, ◌∙◌, subst, not-suc-le-zero, add-one, arith}
use Rattle.fraction.specs.Fraction.{Fraction}
use Rattle.answers.specs.Numbers.{width, numbers_of}
use Rattle.answers.specs.declared.Row.{Row as Numbers}
use Rattle.critical.specs.Reports.{Reports, list_of, Working}
use Rattle.critical.specs.Rows.{Row, behind}
use Rattle.critical.proofs.Room.{Roomy}
use Rattle.critical.proofs.Search.{Stretch, Ready, row_of}
use Rattle.critical.proofs.Cover.{behind_zero, behind_suc}
use Rattle.critical.proofs.Chain.{begins, Link, Chain, chain_more, chain_critical}
use Rattle.critical.proofs.Exists.{ready}
use Rattle.planner.specs.Outcome.{row_at}
use Rattle.rules.specs.Leaves.{Fair}
use Rattle.planner.specs.Inside.{EndIs, BlocksIn, put_row}
use Rattle.planner.specs.declared.search.End.{End}
use Rattle.planner.proofs.Writing.{length-put, put_behind, row_other, row_put}

-- after count rows, with report first next and the last row's end at ended
pub record Building (ℓ : Reports) (before : List ℕ) (count first ended : ℕ) (buffer : List ℕ) : Type 0 where
  pub on : first ≤ ℓ.count
  pub few : count ≤ first
  pub place : behind (row_at buffer) count ≡ first
  pub time : begins ℓ (row_at buffer) count ≡ max (ℓ.arrival first) ended
  pub as_long : length buffer ≡ length before
  pub rest : (i : ℕ) → width * count ≤ i → get_or buffer i 0 ≡ get_or before i 0
  pub chain : (fastest : Fraction) → Roomy ℓ fastest → Chain ℓ fastest count (row_at buffer)

module _ (xs ys ws : List ℕ) (fair : Fair xs ys ws) (before : List ℕ) (room : width * length xs ≤ length before) where
  abbrev ℓ : Reports
  ℓ = list_of xs ys ws

  working : Working ℓ
  working i h = fair.some i h

  pub builds_from_nothing : Building ℓ before 0 0 0 before
  unfolding begins
  builds_from_nothing = record {
    on = omega arith;
    few = omega arith;
    place = behind_zero (row_at before);
    time = omega arith;
    as_long = refl;
    rest = λ i h. refl;
    chain = λ f r k h. absurd (not-suc-le-zero h);
  }

  module _ (count first ended from : ℕ) (buffer : List ℕ) (b : Building ℓ before count first ended buffer) (e : End) (end_is : EndIs ℓ from first e) (from_is : from ≡ max (ℓ.arrival first) ended) where
    pub put_room : first < length xs → width * count + width ≤ length buffer
    put_room h = omega (arith, b.few, b.as_long)

    pub last_on : e.last < length xs
    last_on = omega (arith, end_is.on, end_is.stretch.on_list)

    -- the row that is written
    abbrev r : Numbers
    r = record { first = first; last = e.last; start = from; end = e.time; operations = e.operations }

    abbrev next : List ℕ
    next = put_row buffer count (numbers_of r)

    stands : first < length xs → row_at next count ≡ row_of ℓ from first e.last e.time
    stands h =
        row_put buffer count r (put_room h)
        ∙ ap (λ (o : ℕ). record { first = first; last = e.last; start = from; end = e.time; operations = o }) end_is.operations_are

    link : (f : Fraction) → Roomy ℓ f → Link ℓ f (begins ℓ (row_at buffer) count) (behind (row_at buffer) count) (row_of ℓ from first e.last e.time)
    link f roomy = record {
      first = sym b.place;
      start = from_is ∙ sym b.time;
      stretch = end_is.k;
      is = end_is.stretch;
      found = end_is.found f
          (subst (λ (s : ℕ). Ready ℓ f s first end_is.k) (b.time ∙ sym from_is)
          (subst (λ (p : ℕ). Ready ℓ f (begins ℓ (row_at buffer) count) p end_is.k) b.place
          (ready ℓ f roomy working count (row_at buffer) (b.chain f roomy) end_is.k (subst (λ (p : ℕ). Stretch ℓ p end_is.k) (sym b.place) end_is.stretch))));
    }

    pub builds_on : first < length xs → Building ℓ before (count + 1) (e.last + 1) e.time next
    unfolding begins
    builds_on h = rw (add-one count, add-one e.last) (record {
      on = last_on;
      few = omega (arith, b.few, end_is.from);
      place = behind_suc (row_at next) count ∙ ap (λ (x : Row). suc x.last) (stands h);
      time = ap (λ (x : Row). max (ℓ.arrival (suc x.last)) x.end) (stands h);
      as_long = length-put buffer count r (put_room h) ∙ b.as_long;
      rest = λ i k. put_behind buffer count r (put_room h) i (omega arith) ∙ b.rest i (omega arith);
      chain = λ f roomy. chain_more ℓ f count (row_at buffer) (row_at next) (row_other buffer count r (put_room h)) (b.chain f roomy)
          (subst (Link ℓ f (begins ℓ (row_at buffer) count) (behind (row_at buffer) count)) (sym (stands h)) (link f roomy));
    })

  pub builds_all : (count first ended : ℕ) (buffer : List ℕ) → Building ℓ before count first ended buffer → length xs ≤ first → BlocksIn ℓ before count buffer
  builds_all count first ended buffer b h = record {
    as_long = b.as_long;
    rest = b.rest;
    rows = λ f pos roomy. chain_critical ℓ f count (row_at buffer) (b.chain f roomy) working pos (b.place ∙ omega (arith, b.on, h));
  }
