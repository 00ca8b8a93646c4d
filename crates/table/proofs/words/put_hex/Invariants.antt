use Rattle.std.proofs.Common.{◌≡◌, Some}
use Rattle.std.specs.Slice.Iter.{chunks_rest, chunks_size}
use Rattle.buffers.specs.Items.{items}
use Rattle.table.specs.Hex.{hex_bytes}
use Rattle.table.specs.Words.{beside}
use Rattle.table.proofs.words.put_hex.Given as goal

abbrev pub invariant-loop-pair : goal.invariant-loop-pair
invariant-loop-pair g l = record {
  pairs : chunks_size l.pair-iterator ≡ 2;
  all : beside (Some (items l.line)) (hex_bytes (chunks_rest l.pair-iterator)) ≡ beside (Some (items l.initial.line)) (hex_bytes l.digits);
}
