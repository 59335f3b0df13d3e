-- What is written reads back: the reply's bytes are those that the writer's answer says.
-- Assumes nothing.
use Rattle.std.proofs.Common.{◌+◌, take}
use Rattle.writer.specs.Bytes.{ReadsBack}
use Rattle.writer.proofs.Replies.{where_written}
use Rattle.vakrhildo.proofs.vakrhildo_write.Goals as goal

pub returns-clause-reads_back : goal.returns-clause-reads_back
returns-clause-reads_back c = where_written (λ bytes. ReadsBack (take (c.args.at + bytes) c.write.new.out) _) c.write.result c.into.ensures c.write.ensures.reads_back
