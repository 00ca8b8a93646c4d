use Rattle.keys.proofs.Varints.{Writing}
use Rattle.keys.proofs.varint.write_varint.Given as goal

abbrev pub invariant-loop-byte : goal.invariant-loop-byte
invariant-loop-byte l = Writing l.value l.rest l.byte-index l.byte-items
