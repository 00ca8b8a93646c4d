use Rattle.std.proofs.Common.{◌≡◌, ◌≤◌, length, take}
use Rattle.std.specs.Io.KnownBytes.{Consumes}
use Rattle.verdicts.specs.declared.TheConstants.{ROOM}
use Rattle.verdicts.proofs.read_input.Given as goal

-- each turn has read a byte at least; what was read stands in front of the room
abbrev pub invariant-loop : goal.invariant-loop
invariant-loop g l = record {
  within : l.len ≤ ROOM;
  same : length l.room ≡ ROOM;
  some : l.counter ≤ l.len;
  bytes : Consumes (g.R.Read.remaining l.initial.reader) (g.R.Read.remaining l.reader) (take l.len l.room);
}
