use Rattle.std.proofs.Common.{arith}
use Rattle.keys.proofs.Varints.{writing_begins, writing_more}
use Rattle.keys.proofs.varint.write_varint.Goals as goal

pub loop-byte-init : goal.loop-byte-init
loop-byte-init c = writing_begins c.args.value c.varint_size-needed.result c.args.out.now (omega arith) (omega arith)

pub loop-byte-preserved : goal.loop-byte-preserved
loop-byte-preserved c = writing_more c.args.value c.loop-byte.rest c.loop-byte.byte-index c.loop-byte.byte-items (omega arith) (omega arith) c.loop-byte.invariant
