use Rattle.std.proofs.Common.{◌≡◌, ◌<◌, ◌≤◌, length, take, min, ap, ◌∙◌, Err, arith, ok_or}
use Rattle.std.proofs.lemmas.Slice.{between_from_start}
use Rattle.keys.specs.Bytes.{little_number}
use Rattle.std.proofs.lemmas.Option.{MatchOption-at_some, MatchOption-at_none}
use Rattle.std.proofs.lemmas.Result.{err_from_is_err_and}
use Rattle.rolls.specs.Bitmap.{bitmap_size}
use Rattle.rolls.proofs.Readings.{split_is, bits-short, bits-made, read_short, read_long, read_behind, handed, ok_written, ok_back}
use Rattle.rolls.proofs.Placing.{ok_laid_out}
use Rattle.rolls.proofs.signers.Signers.read.Goals as goal

pub returns-in_err-len-clause-read : goal.returns-in_err-len-clause-read
returns-in_err-len-clause-read c =
    handed c.split_first_chunk.result c.from_residual.result _ _ _ _ (err_from_is_err_and c.from_residual.result c.from_residual.ensures.1)
    c.in_err-len.ensures.value c.in_err-len.ensures.ok_part c.fault.ensures
    (read_short c.args.limit c.args.bytes.now (MatchOption-at_none _ _ c.in_err-len.ensures.ok_part c.split_first_chunk.ensures.cases))

pub returns-in_err-len-clause-reads_back : goal.returns-in_err-len-clause-reads_back
returns-in_err-len-clause-reads_back c = ok_back c.args.limit c.args.bytes.now c.from_residual.result (returns-in_err-len-clause-read c)

pub returns-then-len-min-clause-read : goal.returns-then-len-min-clause-read
returns-then-len-min-clause-read c =
    let s = split_is c.args.bytes.now _ _ c.from_be_bytes-len.result (MatchOption-at_some _ _ _ c.in_ok-len.ensures.ok_part c.split_first_chunk.ensures.cases) c.from_be_bytes-len.ensures in
    ap Err c.fault-then-len-min.ensures ∙ read_long c.args.limit c.args.bytes.now c.from_be_bytes-len.result s.eight s.number (omega (arith, c.min.ensures, c.if-len-min.true))

pub returns-then-len-min-clause-reads_back : goal.returns-then-len-min-clause-reads_back
returns-then-len-min-clause-reads_back c = ok_back c.args.limit c.args.bytes.now (Err c.fault-then-len-min.result) (returns-then-len-min-clause-read c)

pub returns-in_err-bits-clause-read : goal.returns-in_err-bits-clause-read
returns-in_err-bits-clause-read c =
    let s = split_is c.args.bytes.now _ _ c.from_be_bytes-len.result (MatchOption-at_some _ _ _ c.in_ok-len.ensures.ok_part c.split_first_chunk.ensures.cases) c.from_be_bytes-len.ensures in
    let l : length c.in_ok-len.rest.now < bitmap_size c.from_be_bytes-len.result =
    omega (arith, c.div_ceil.ensures, MatchOption-at_none _ _ c.in_err-bits.ensures.ok_part c.get.ensures.lookup.0) in
    handed c.get.result c.from_residual-in_err-bits.result _ _ _ _ (err_from_is_err_and c.from_residual-in_err-bits.result c.from_residual-in_err-bits.ensures.1)
    c.in_err-bits.ensures.value c.in_err-bits.ensures.ok_part c.fault-2.ensures
    (bits-short c.from_be_bytes-len.result c.in_ok-len.rest.now l
    ∙ read_behind c.args.limit c.args.bytes.now c.in_ok-len.rest.now c.from_be_bytes-len.result s (omega (arith, c.min.ensures, c.if-len-min.false)))

pub returns-in_err-bits-clause-reads_back : goal.returns-in_err-bits-clause-reads_back
returns-in_err-bits-clause-reads_back c = ok_back c.args.limit c.args.bytes.now c.from_residual-in_err-bits.result (returns-in_err-bits-clause-read c)

pub returns-clause-read : goal.returns-clause-read
returns-clause-read c =
    let s = split_is c.args.bytes.now _ _ c.from_be_bytes-len.result (MatchOption-at_some _ _ _ c.in_ok-len.ensures.ok_part c.split_first_chunk.ensures.cases) c.from_be_bytes-len.ensures in
    let g = MatchOption-at_some _ _ _ c.in_ok-bits.ensures.ok_part c.get.ensures.lookup.0 in
    let few : c.from_be_bytes-len.result ≤ min c.args.limit 64 = omega (arith, c.min.ensures, c.if-len-min.false) in
    let k : c.div_ceil.result ≡ bitmap_size c.from_be_bytes-len.result = omega (arith, c.div_ceil.ensures) in
    let b : c.in_ok-bits.bits.now ≡ take (bitmap_size c.from_be_bytes-len.result) c.in_ok-len.rest.now =
    g.2 ∙ between_from_start c.in_ok-len.rest.now c.div_ceil.result ∙ ap (λ m. take m c.in_ok-len.rest.now) k in
    bits-made c.from_be_bytes-len.result c.in_ok-len.rest.now c.little.result c.from_bits.result c.ok_or-3.result (omega (arith, g.1))
    (c.little.ensures ∙ ap little_number b) c.from_bits.ensures (c.ok_or-3.ensures.value ∙ ap (ok_or c.from_bits.result) c.fault-3.ensures)
    ∙ read_behind c.args.limit c.args.bytes.now c.in_ok-len.rest.now c.from_be_bytes-len.result s few

pub returns-clause-written : goal.returns-clause-written
returns-clause-written c =
    ok_written c.args.limit c.args.bytes.now c.ok_or-3.result (λ i. (c.type_inv.bytes i).fits) (returns-clause-read c)

pub returns-clause-laid_out : goal.returns-clause-laid_out
returns-clause-laid_out c = ok_laid_out c.args.bytes.now c.ok_or-3.result (returns-clause-written c)

pub returns-clause-reads_back : goal.returns-clause-reads_back
returns-clause-reads_back c = ok_back c.args.limit c.args.bytes.now c.ok_or-3.result (returns-clause-read c)
