-- A call, in a walk by hand of a function's MIR: all that is known of the callee is that it meets its contract. And what such a callee asks of a slice. It says nothing of the roll. No proof here cites it: the kit writes the walks now.
-- Assumes `Logic`.
use mathlib.Core.Path.{sym, ap, subst}
use mathlib.Core.List.{List, [], ◌∷◌}
use seplogic.Ra.Ura.{Ura}
use Prim.Native.Nat.{ℕ}
use mir.Syntax.{Callee, Place, Opd as Operand, Body, w8, named, seq, call}
use mir.Val.{Val}
use base.Logic.{SProp, ent, sep, emp, via, snd∗, ex_e, id⊢}
use base.Fml.{Lft, Fml, fsep}
use prog.Wp.{Env, Calls, Loops}
use types.Logic.{Logic, sem}
use contract.Monad.{fact}
use types.Kit.{Item, Post as Ends, Seq, runs, lands, ‵, raw, ◌⊛◌, ⋆, some, later, ◌$◌, ◌∵◌, !, qed, move, use0, use1, split, join, fjoin, pick, await, frame, done}
use types.Run.{Opds}
use sound.WpLaws.{FmC}
use denote.Laws.{Is, Tells, shows}
use denote.Builtin.{u8}
use denote.Plain.{uint_row_laws}
use denote.Ref.{Bor}
use denote.Signature.{type_at}
use denote.Slice.{ShrSlice, shr_slice_copy}
use denote.Steps.{only, peeks, heard}
use denote.Triple.Statement.{Contract, Triple}
use denote.Triple.Call.{calls_at}
use denote.Triple.Entry.{alive}
use denote.Triple.Spec.{triple_of}
use denote.Triple.Clauses.{Ended, Clauses, Lasts, AtExit, at_exit, lasts, ensured, closing}

-- The triple that a callee's clauses make.
abbrev pub met : {M : Type 1} {𝓤 : Ura M} (𝓛 : Logic 𝓤) (F : Ended) → Clauses 𝓤 F → Contract 𝓤
met 𝓛 F c = triple_of 𝓛 F.signature (closing 𝓛 F c)

-- A call: what the callee asks stands at the head; once it has returned r, at the machine value that r spells, what r owns and the callee's tokens stand there, and what its `ensures` states, φ, is known.
module _ {M : Type 1} {𝓤 : Ura M} {𝓛 : Logic 𝓤} {K : Type 0} {Γ : List (Item 𝓤)} {E : Env 𝓤 𝓛.H} {C : Calls 𝓤 𝓛.H} {Λ : Loops 𝓤 𝓛.H} {q : Ends 𝓤 𝓛.H} {f : Callee} {xs : List Operand} {d : Place} {rest : Body} where
  open 𝓛 use {H}

  pub asks : K → FmC 𝓤 H 𝓛.laws C → (F : Ended) (c : Clauses 𝓤 F) → Triple 𝓤 (C f) (met 𝓛 F c) → (y : (met 𝓛 F c).Ghost) → let R = type_at F.signature.result y.0.0 in
      (spell : R.Denot → Val) → Tells R (Is R) (λ r. spell r ∷ []) → (φ : R.Denot → Type 0) → ((r : R.Denot) (e : AtExit F y.0.0) → ent 𝓤 ((c y.0.0 y.0.3).ensures y.1 r e) (fact 𝓤 (φ r)))
      → Opds K 𝓛 (raw ((met 𝓛 F c).pre y) ∷ Γ) E xs ((met 𝓛 F c).args y)
      → ((r : R.Denot) → Is R r (spell r ∷ []) → φ r → Seq K 𝓛 (‵ (R.own_val r (spell r ∷ [])) ∷ raw (alive 𝓛 F.signature y.0.0 y.0.1) ∷ Γ) (lands C Λ E d (spell r) rest q))
      → Seq K 𝓛 (raw ((met 𝓛 F c).pre y) ∷ Γ) (runs C Λ E (seq (call f xs d) rest) q)
  asks t fm F c known y spell tells φ states os k =
      let R = type_at F.signature.result y.0.0 in
      let tokens : Item 𝓤 = raw (alive 𝓛 F.signature y.0.0 y.0.1) in
      let Says : R.Denot → Lasts F y.0.0 y.0.3 → SProp 𝓤 = λ r ws. (c y.0.0 y.0.3).ensures y.1 r (at_exit F y.0.0 y.0.3 ws) in
      calls_at t fm (met 𝓛 F c) known y os (λ v.
      use1 𝓛 (later (some (λ (r : R.Denot). (tokens ⊛ ‵ (R.own_val r (v ∷ []))) ⊛ raw (ensured 𝓛 F c y.0.0 y.0.3 y.1 r)))) (id⊢ 𝓤 _) $ await t tt $ pick t (λ r.
      split t $ move t (1 ∷ []) $ use1 𝓛 (raw (fact 𝓤 (φ r))) (ex_e 𝓤 _ (λ ws. via 𝓤 (Says r ws) (snd∗ 𝓤 (sem 𝓛 (lasts F y.0.0 y.0.3 ws)) (Says r ws)) (states r _))) $ heard t (φ r) (λ e.
      split t $ move t (1 ∷ []) $ peeks t R (Is R) (shows 𝓛 R) r (v ∷ []) (λ is.
      subst (λ (x : Val). Seq K 𝓛 (‵ (R.own_val r (x ∷ [])) ∷ tokens ∷ Γ) (lands C Λ E d x rest q)) (sym (ap only (tells r (v ∷ []) is))) (k r (subst (Is R r) (tells r (v ∷ []) is) is) e)))))

-- What a callee asks that takes a shared slice of bytes first is had of the token T and of one copy of what the slice owns, and the other copy is kept. What else it asks, P and R, is had for nothing.
module _ {M : Type 1} {𝓤 : Ura M} (𝓛 : Logic 𝓤) (T : SProp 𝓤) (κ : Lft) (s : Bor (List ℕ)) (v : Val) where
  abbrev Own : Fml
  Own = (ShrSlice (named 0) κ u8).own_val s (v ∷ [])

  pub lends : (P : Fml) (R : SProp 𝓤) → ent 𝓤 (emp 𝓤) (sem 𝓛 P) → ent 𝓤 (emp 𝓤) R
      → ent 𝓤 (⋆ 𝓛 (raw T ∷ ‵ Own ∷ [])) (sep 𝓤 (sep 𝓤 (sep 𝓤 T (sem 𝓛 (fsep Own P))) R) (sem 𝓛 Own))
  lends P R p r =
      qed 𝓛 (raw T ∷ ‵ Own ∷ []) ∵ move ! (1 ∷ []) $ use1 𝓛 (‵ Own ⊛ ‵ Own) ((shr_slice_copy 𝓛 (named 0) κ u8 (uint_row_laws w8)).twice s (v ∷ [])) $ split ! $
      use0 𝓛 (‵ P) p $ move ! (1 ∷ 0 ∷ []) $ fjoin ! $ move ! (2 ∷ 0 ∷ []) $ join ! $ use0 𝓛 (raw R) r $ move ! (1 ∷ 0 ∷ []) $ join ! $ frame ! $ done !
