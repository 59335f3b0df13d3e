-- A loop that fills out.
use Rattle.std.proofs.Common.{◌+◌, ◌*◌, length}
use Rattle.lists.proofs.Filling.{Filled}
use Rattle.roll.specs.Format.{u32_at}
use Rattle.roll.proofs.bytes.column.Given as goal

abbrev pub invariant-loop-i : goal.invariant-loop-i
invariant-loop-i l = Filled (λ j. u32_at l.part (12 * j + l.at)) (length l.fn.out) l.fn.out l.i l.out
