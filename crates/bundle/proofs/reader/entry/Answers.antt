use Rattle.std.proofs.Common.{arith}
use Rattle.std.proofs.lemmas.Grind.{common_steps}
use Rattle.bundle.proofs.Fields.{entry_first, entry_second, entry_whole}
use Rattle.bundle.proofs.reader.entry.Goals as goal

pub returns-in_err-message-clause-entry : goal.returns-in_err-message-clause-entry
returns-in_err-message-clause-entry c = grind (arith, common_steps, entry_first)

pub returns-in_err-certificate-clause-entry : goal.returns-in_err-certificate-clause-entry
returns-in_err-certificate-clause-entry c = grind (arith, common_steps, entry_second)

pub returns-clause-entry : goal.returns-clause-entry
returns-clause-entry c =
    let m = c.in_ok-message.ensures in
    let k = c.in_ok-certificate.ensures in
    entry_whole _ _ _ _ _ _ _ m.field m.left m.place k.field (omega (arith, k.place))
