-- Each turn puts one record.
-- Assumes nothing.
use Rattle.std.proofs.Common.{refl, arith, rules}
use Rattle.lists.proofs.Putting.{puts_part, no_turn}
use Rattle.writer.specs.Bytes.{records_up_to}
use Rattle.writer.proofs.Records.{fits_none}
use Rattle.writer.proofs.Laying.{record_more}
use Rattle.writer.proofs.write_records.Goals as goal

pub loop-i-init : goal.loop-i-init
unfolding records_up_to
loop-i-init c = (omega arith, no_turn refl, fits_none)

pub loop-i-preserved : goal.loop-i-preserved
loop-i-preserved c =
    record_more _ _ _ _ _ _ (omega arith) (omega arith) (omega arith) (omega arith) (omega arith) (omega arith) (search rules) c.loop-i.invariant (puts_part c.write_record.ensures.puts) c.write_record.ensures.record_fits
