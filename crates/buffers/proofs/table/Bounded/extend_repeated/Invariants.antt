use Rattle.std.proofs.Common.{◌≡◌, take, replicate}
use Rattle.buffers.proofs.table.Bounded.extend_repeated.Given as goal

abbrev pub invariant-loop-slot : goal.invariant-loop-slot
invariant-loop-slot g l = take l.slot-index l.slot-items ≡ replicate l.slot-index l.item
