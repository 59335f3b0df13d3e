-- The part between the back distance and the trailer.
use Rattle.std.proofs.Common.{refl, arith}
use Rattle.roll.proofs.FileRules.{fits_part, cut_part}
use Rattle.roll.proofs.opened.Opened.part.Goals as goal

pub overflow_add-to : goal.overflow_add-to
overflow_add-to c = omega (arith, c.records_at-from.ensures, c.records_long.ensures, fits_part _ c.args.self.accepted)

pub slice_bounds-result-end : goal.slice_bounds-result-end
slice_bounds-result-end c = omega (arith, c.records_at-from.ensures, c.records_long.ensures, fits_part _ c.args.self.accepted)

pub returns : goal.returns
returns c = cut_part c.args.self.accepted (record { bytes = refl; lies = refl }) (omega (arith, c.records_at-from.ensures)) (omega (arith, c.records_long.ensures))
