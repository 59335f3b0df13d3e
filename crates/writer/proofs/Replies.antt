-- A reply with number 0 is one of a roll that was written: what holds of the bytes that an answer says holds of those that the reply says.
-- Assumes nothing.
use Prim.Native.Nat.{ℕ}
use mathlib.Core.Path.{◌≡◌, sym, subst}
use native.Mathlib.Omega.{arith}
use Rattle.std.specs.Prelude.{Ok, Err, IfOk}
use Rattle.answers.proofs.Replies.{numbered}
use Rattle.writer.specs.Writing.{Wrote, InBytes}
use Rattle.writer.specs.declared.WriteReply.{WriteReply}

pub where_written : (P : ℕ → Type 0) (a : Wrote) {r : WriteReply} → InBytes a r → IfOk a P → r.number ≡ 0 → P r.bytes
where_written P (Ok bytes) i p e = subst P (sym i.bytes_is) p
where_written P (Err refusal) i p e = absurd (omega (arith, e, i.number_is, numbered refusal.fault))
