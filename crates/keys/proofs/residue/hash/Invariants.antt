use Rattle.std.proofs.Common.{◌≡◌, take}
use Rattle.keys.specs.Residue.{residue_hash}
use Rattle.keys.proofs.residue.hash.Given as goal

abbrev pub invariant-loop-byte : goal.invariant-loop-byte
invariant-loop-byte l = l.hash ≡ residue_hash (take l.byte-index l.bytes)
