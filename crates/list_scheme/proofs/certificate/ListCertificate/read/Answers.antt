use Rattle.std.proofs.Common.{◌≡◌, length, map, drop, Ok, arith, sym, ◌∙◌}
use Rattle.std.proofs.lemmas.Grind.{common_steps}
use Rattle.buffers.specs.Items.{items}
use Rattle.keys.specs.Signed.{signed}
use Rattle.keys.specs.Varint.{read_varint}
use Rattle.rolls.specs.Signers.{bitmap, written_size}
use Rattle.list_scheme.specs.Reading.{read_list, finished}
use Rattle.list_scheme.proofs.FieldByField.{reads_count, reads_signatures}
use Rattle.list_scheme.proofs.certificate.ListCertificate.read.Goals as goal
use Rattle.list_scheme.proofs.certificate.ListCertificate.read.Goals.{In_ok-signatures}

pub returns-in_err-listed : goal.returns-in_err-listed
returns-in_err-listed c =
    let b = bitmap c.in_ok-signers.signers in
    let r = reads_count c.args.width c.args.bound c.args.bytes.now b (sym c.in_ok-signers.ensures.read) (λ z. c.if-count-eq0.false (c.count.ensures ∙ z)) in
    grind (arith, common_steps, r, c.in_err-listed.ensures c.args.width b c.args.bytes.now)

-- all signatures were read
found : (c : In_ok-signatures)
    → read_list c.args.width c.args.bound c.args.bytes.now
    ≡ finished (bitmap c.in_ok-signers.signers) c.place-at.result c.signatures.new.rest.place (length c.args.bytes.now) (Ok (map signed (items c.in_ok-signatures.signatures)))
found c =
    let b = bitmap c.in_ok-signers.signers in
    let v = c.in_ok-listed.ensures in
    let e : read_varint (drop (written_size b) c.args.bytes.now) ≡ Ok (record { value = c.in_ok-listed.listed; size = v.1.0 }) = grind (arith, common_steps) in
    let r = reads_signatures c.args.width c.args.bound c.args.bytes.now b (sym c.in_ok-signers.ensures.read) (λ z. c.if-count-eq0.false (c.count.ensures ∙ z)) (record { value = c.in_ok-listed.listed; size = v.1.0 }) e v.0 in
    grind (arith, common_steps, r)

pub returns-then-count-as_slice : goal.returns-then-count-as_slice
returns-then-count-as_slice c = grind (arith, common_steps, found (goal.at.returns-then-count-as_slice c).In_ok-signatures)

pub returns : goal.returns
returns c = grind (arith, common_steps, found (goal.at.returns c).In_ok-signatures)
