use Rattle.std.proofs.Common.{map}
use Rattle.buffers.specs.Items.{items}
use Rattle.keys.specs.Signed.{signed}
use Rattle.list_scheme.proofs.Listing.{Ongoing}
use Rattle.list_scheme.proofs.reading.signatures.Given as goal

abbrev pub invariant-loop : goal.invariant-loop
invariant-loop l =
    Ongoing l.width l.count l.initial.rest.place l.initial.rest.bytes.now l.counter l.rest.place l.rest.bytes.now (map signed (items l.list))
