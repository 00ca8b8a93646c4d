-- What a bundle holds. Assumes nothing.
use Rattle.std.specs.Prelude.{List, map}
use Rattle.buffers.specs.Items.{items}
use Rattle.bundle.specs.declared.layout.Bundle.{Bundle}
use Rattle.bundle.specs.Layout.{Raw, Pair, pair_of}
use Rattle.bundle.specs.Raws.{raw_of}

-- the entries that a bundle holds
abbrev pub held_by : Bundle → List Raw
held_by b = map raw_of (items b.entries)

-- their messages and certificates
abbrev pub pairs_of : Bundle → List Pair
pairs_of b = map pair_of (held_by b)
