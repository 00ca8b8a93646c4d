use Rattle.keys.proofs.VarintReads.{Reading}
use Rattle.keys.proofs.varint.read_varint.Given as goal

abbrev pub invariant-loop-place : goal.invariant-loop-place
invariant-loop-place l = Reading l.bytes l.place l.value l.weight
