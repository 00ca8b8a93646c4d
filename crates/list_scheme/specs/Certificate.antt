-- What a list certificate says. Assumes nothing.
use Rattle.std.specs.Prelude.{map}
use Rattle.buffers.specs.Items.{items}
use Rattle.keys.specs.Signed.{signed}
use Rattle.rolls.specs.Signers.{bitmap}
use Rattle.schemes.specs.Judging.{Parts}
use Rattle.list_scheme.specs.declared.certificate.ListCertificate.{ListCertificate}

abbrev pub parts : ListCertificate → Parts
parts c = record { bitmap = bitmap c.signers; signatures = map signed (items c.signatures) }
