-- The writer's outcome: of a refusal, and of a roll that is put; and what its rules leave where none is given.
-- Assumes nothing.
use Prim.Native.Nat.{ℕ, zero, suc, ◌+◌, ◌-◌, ◌/◌, ◌^◌, ◌≤◌, ◌<◌}
use mathlib.Core.Path.{◌≡◌, refl, sym, ap, subst}
use mathlib.Core.List.{List, ◌++◌}
use mathlib.Core.Logic.{◌↔◌, inl, inr, ⊎_elim}
use native.Mathlib.Omega.{arith}
use lib.Dec.{ltb}
use lib.ListN.{length, get_or, take, drop}
use Rattle.std.specs.Prelude.{Ok, Err, IsErr, IsErrAnd}
use Rattle.answers.specs.Numbers.{number, number_of, place_of}
use Rattle.answers.specs.declared.Refusal.{Refusal}
use Rattle.answers.proofs.Replies.{numbered}
use Rattle.lists.specs.Puts.{Puts}
use Rattle.lists.proofs.Putting.{put_long, put_before, put_behind}
use Rattle.trials.specs.Rules.{Refused, Refuses}
use Rattle.trials.specs.Tries.{Tells, Verdict, After}
use Rattle.trials.proofs.Passing.{Passed, Quiet, finding, untrue, not_given, more, none}
use Rattle.trials.proofs.Numbers.{Never, never_none, never_other, never_this}
use Rattle.trials.proofs.Single.{not_refused}
use Rattle.trials.proofs.Trying.{tells_as, tells_below, passed, refuses_on}
use Rattle.fraction.proofs.Scale.{cases}
use Rattle.rules.specs.Rules.{lengths_rule, many_rule}
use Rattle.rules.specs.Leaves.{Even}
use Rattle.rules.proofs.Leaving.{even_lists, few_reports}
use Rattle.writer.specs.Bytes.{Listing, roll_long, roll_bytes, ReadsBack}
use Rattle.writer.specs.Writing.{wide_rule, room_rule, rules_for, WriteOutcome, Wrote, bytes_of, Writable}
use Rattle.writer.specs.Inside.{RecordsFit}
use Rattle.writer.proofs.Records.{length-roll_bytes}
use Rattle.writer.proofs.ReadingBack.{written_reads_back}

-- ---- the test of rule 15, where the place is inside the buffer and a trailer has room behind it
pub tells_room : (reports at room trailer each : ℕ) → trailer ≡ 16 → each ≡ 12 → at ≤ room → trailer ≤ room - at → Tells (room < at + roll_long reports) (ltb ((room - at - trailer) / each) reports)
tells_room reports at room trailer each e f h k =
    subst (λ (d : ℕ). Tells (room < at + roll_long reports) (ltb ((room - at - trailer) / d) reports)) (sym f)
    (tells_as (λ (l : (room - at - trailer) / 12 < reports). omega (arith, l, e, h, k)) (λ (l : room < at + roll_long reports). omega (arith, l, e, h, k)) tells_below)

-- ---- what the rules leave
module _ (x : Listing) (before : List ℕ) (at : ℕ) where
  pub leaves : Passed (rules_for x before at) → Writable x before at
  leaves p =
      let lengths : Quiet (lengths_rule (length x.arrivals) (length x.deadlines) (length x.operations)) = search finding depth 40 in
      let even : Even x.arrivals x.deadlines x.operations = even_lists x.arrivals x.deadlines x.operations lengths in
      let many : Quiet (many_rule (length x.arrivals)) = search finding depth 40 in
      let wide : Quiet (wide_rule x.terms) = search finding depth 40 in
      let room : Quiet (room_rule (length x.arrivals) at (length before)) = search finding depth 40 in
      record {
        as_many_deadlines = even.deadlines_long;
        as_many_operations = even.operations_long;
        few = few_reports many;
        p_most = cases 65535 x.terms.p (λ l. absurd (untrue wide (inl l))) (λ g. g);
        q_most = cases 65535 x.terms.q (λ l. absurd (untrue wide (inr l))) (λ g. g);
        room = cases (length before) (at + roll_long (length x.arrivals)) (λ l. absurd (untrue room l)) (λ g. g);
      }

  -- where the rules, tried by a `?`, are silent
  pub left : {v : Verdict} → After (Ok tt) (rules_for x before at) v → v ≡ Ok tt → Writable x before at
  left t e = leaves (passed t e)

  -- ---- a rule is given
  pub refused : (n place : ℕ) → 0 < n → Refused (rules_for x before at) n place → WriteOutcome x before at n place 0 before
  unfolding WriteOutcome
  refused zero place h r = absurd (omega (arith, h))
  refused (suc k) place h r = (r, refl, refl)

  pub refused_write : {a : Refusal} → Refuses (rules_for x before at) a → WriteOutcome x before at (number a.fault) a.place 0 before
  refused_write {a} r = refused (number a.fault) a.place (numbered a.fault) r.refused

  -- so is one that a `?` hands on, and nothing reads back
  pub refused_on : {v : Verdict} {a : Refusal} (r : Wrote) → After (Ok tt) (rules_for x before at) v → v ≡ Err a → IsErr r × IsErrAnd r (λ e. e ≡ a) → WriteOutcome x before at (number_of r) (place_of r) (bytes_of r) before
  refused_on {a = a} r t e h =
      let p = refuses_on {rules = rules_for x before at} {r = r} t e h in
      subst (λ (y : Wrote). WriteOutcome x before at (number_of y) (place_of y) (bytes_of y) before) (sym p.1) (refused_write p.0)

  -- ---- none is
  pub written : (bytes : ℕ) {after : List ℕ} → Passed (rules_for x before at) → Puts before at (roll_bytes x) (at + bytes) after → WriteOutcome x before at 0 0 bytes after
  unfolding WriteOutcome
  written bytes p w = (p.accepted, refl, w)

  -- and where the numbers fit, what is written reads back
  pub shown_again :
      (bytes : ℕ) {after : List ℕ} → Passed (rules_for x before at) → Puts before at (roll_bytes x) (at + bytes) after →
      RecordsFit x.arrivals x.deadlines x.operations (length x.arrivals) → x.terms.reference < 2 ^ 32 → ReadsBack (take (at + bytes) after) x
  shown_again bytes p w f r =
      let l = leaves p in
      written_reads_back x (record {
        even = record { deadlines_long = l.as_many_deadlines; operations_long = l.as_many_operations };
        records_fit = f;
        reference_fits = r;
        count_fits = omega (arith, l.few);
        p_fits = omega (arith, l.p_most);
        q_fits = omega (arith, l.q_most);
      }) w

  -- what the buffer holds once the roll is put
  pub all_put : (bytes : ℕ) × (after : List ℕ) × Puts before at (roll_bytes x) (at + bytes) after
  all_put = (length (roll_bytes x), take at before ++ (roll_bytes x ++ drop (at + length (roll_bytes x)) before), record { behind = refl; written = refl })

  -- ---- the other way: what can be written is, and nothing else
  passes : Writable x before at → Passed (rules_for x before at)
  passes w =
      more (not_given (⊎_elim (λ h. h (sym w.as_many_deadlines)) (λ h. h (sym w.as_many_operations))))
      (more (not_given (λ h. omega (arith, h, w.few)))
      (more (not_given (⊎_elim (λ h. omega (arith, h, w.p_most)) (λ h. omega (arith, h, w.q_most))))
      (more (not_given (λ h. omega (arith, h, w.room))) none)))

  pub exactly_when : (number place bytes : ℕ) (after : List ℕ) → WriteOutcome x before at number place bytes after → (number ≡ 0) ↔ Writable x before at
  unfolding WriteOutcome
  exactly_when zero place bytes after o = (λ _. leaves (record { accepted = o.0 }), λ _. refl)
  exactly_when (suc k) place bytes after o = (λ e. absurd (omega (arith, e)), λ w. absurd (not_refused (rules_for x before at) (passes w).accepted (suc k) place o.0))

  -- no rule of the writer is about a report
  place_refused : (number place : ℕ) → Refused (rules_for x before at) number place → place ≡ 0
  unfolding Refused
  place_refused number place r = ⊎_elim (λ g. g.1.1) (λ r. ⊎_elim (λ g. g.1.1) (λ r. ⊎_elim (λ g. g.1.1) (λ r. ⊎_elim (λ g. g.1.1) (λ r. absurd r.1) r.1) r.1) r.1) r

  pub place_none : (number place bytes : ℕ) (after : List ℕ) → WriteOutcome x before at number place bytes after → place ≡ 0
  unfolding WriteOutcome
  place_none zero place bytes after o = o.1
  place_none (suc k) place bytes after o = place_refused (suc k) place o.0

  pub nothing_written : (number place bytes : ℕ) (after : List ℕ) → WriteOutcome x before at number place bytes after → 0 < number → (bytes ≡ 0) × (after ≡ before)
  unfolding WriteOutcome
  nothing_written zero place bytes after o h = absurd (omega (arith, h))
  nothing_written (suc k) place bytes after o h = (o.1, o.2)

  -- where it is put, it fits
  pub inside : (bytes : ℕ) {after : List ℕ} → Passed (rules_for x before at) → Puts before at (roll_bytes x) (at + bytes) after → (bytes ≡ length (roll_bytes x)) × (at + length (roll_bytes x) ≤ length before)
  inside bytes p w =
      let e : at + bytes ≡ at + length (roll_bytes x) = w.behind in
      (omega (arith, e), omega (arith, (leaves p).room, length-roll_bytes x))

  pub stays :
      (number place bytes : ℕ) (after : List ℕ) → WriteOutcome x before at number place bytes after →
      (length after ≡ length before) × ((i : ℕ) → i < at → get_or after i 0 ≡ get_or before i 0) × ((i : ℕ) → at + bytes ≤ i → get_or after i 0 ≡ get_or before i 0)
  unfolding WriteOutcome
  stays zero place bytes after o =
      let f = inside bytes (record { accepted = o.0 }) o.2 in
      (put_long o.2 f.1, put_before o.2 f.1, λ i h. put_behind o.2 f.1 i (omega (arith, h, f.0)))
  stays (suc k) place bytes after o =
      let same : (i : ℕ) → get_or after i 0 ≡ get_or before i 0 = λ i. ap (λ (l : List ℕ). get_or l i 0) o.2 in
      (ap length o.2, λ i _. same i, λ i _. same i)

  -- where every roll has room behind the place, 15 is never given
  room_silent : at + roll_long 1024 ≤ length before → Never 15 (rules_for x before at)
  room_silent h =
      let room : Quiet (many_rule (length x.arrivals)) → Quiet (room_rule (length x.arrivals) at (length before)) = λ many. not_given (λ l. omega (arith, l, h, few_reports many)) in
      search (never_other, never_this, never_none) depth 40

  pub never_fifteen : (place bytes : ℕ) (after : List ℕ) → at + roll_long 1024 ≤ length before → WriteOutcome x before at 15 place bytes after → ⊥
  unfolding WriteOutcome
  never_fifteen place bytes after h o = (room_silent h).never place o.0
