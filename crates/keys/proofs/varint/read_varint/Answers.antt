use Rattle.std.proofs.Common.{◌≡◌, get_or, Err, refl, arith}
use Rattle.keys.specs.Varint.{read_varint}
use Rattle.keys.specs.declared.varint.VarintFault.TheVariants.{EndOfBuffer, Invalid}
use Rattle.keys.proofs.VarintReads.{reading_more, reading_closes, reading_stops, reading_ends, back_from_value, shortest_from_value}
use Rattle.keys.proofs.varint.read_varint.Goals as goal

pub loop-place-preserved : goal.loop-place-preserved
loop-place-preserved c =
    reading_more c.args.bytes.now c.loop-place.place _ c.loop-place.value c.loop-place.weight
    (omega arith) refl (omega arith) (omega arith) (omega arith) c.loop-place.invariant

pub returns-then-byte-lt128 : goal.returns-then-byte-lt128
returns-then-byte-lt128 c =
    let e : c.shortest.result ≡ read_varint c.args.bytes.now =
    reading_closes c.args.bytes.now c.loop-place.place _ c.loop-place.value c.loop-place.weight _ (omega arith) refl (omega arith) c.loop-place.invariant c.shortest.ensures in
    record { value = e; reads_back = back_from_value _ _ e; shortest = shortest_from_value _ _ e }

pub returns-then-place-eq-MAX_GROUPS : goal.returns-then-place-eq-MAX_GROUPS
returns-then-place-eq-MAX_GROUPS c =
    let e : Err Invalid ≡ read_varint c.args.bytes.now =
    reading_stops c.args.bytes.now c.loop-place.place (get_or c.args.bytes.now c.loop-place.place 0) c.loop-place.value c.loop-place.weight
    (omega arith) refl (omega arith) (omega arith) (omega arith) c.loop-place.invariant in
    record { value = e; reads_back = back_from_value _ _ e; shortest = shortest_from_value _ _ e }

pub returns : goal.returns
returns c =
    let e : Err EndOfBuffer ≡ read_varint c.args.bytes.now =
    reading_ends c.args.bytes.now c.loop-place.place c.loop-place.value c.loop-place.weight (omega arith) c.loop-place.invariant in
    record { value = e; reads_back = back_from_value _ _ e; shortest = shortest_from_value _ _ e }
