use Rattle.std.proofs.Common.{length, arith}
use Rattle.std.proofs.lemmas.Grind.{common_steps}
use Rattle.keys.proofs.Payloads.{length-payload}
use Rattle.keys.proofs.Varints.{length-varint-short}
use Rattle.list_scheme.proofs.scheme.ListSchemeVerifier.verify_certificate.Goals as goal

pub returns-in_err-size : goal.returns-in_err-size
returns-in_err-size g c =
    let l = length-payload c.namespace.result.now c.message-message.result.now in
    let v = length-varint-short (length c.namespace.result.now) in
    grind (arith, common_steps, l, v, g.N.Namespace.short c.args.self.now.namespace)
