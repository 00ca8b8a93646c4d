use Rattle.std.proofs.Common.{map}
use Rattle.buffers.specs.Items.{items}
use Rattle.bundle.specs.Raws.{raw_of}
use Rattle.bundle.proofs.Reading.{Reading}
use Rattle.bundle.proofs.layout.Bundle.read.Given as goal

abbrev pub invariant-loop : goal.invariant-loop
invariant-loop l = Reading l.bytes l.count l.counter (map raw_of (items l.entries)) l.rest.place l.rest.bytes.now
