use Rattle.std.proofs.Common.{rules}
use Rattle.rolls.proofs.BitLaws.{tested}
use Rattle.rolls.proofs.signers.Signers.contains.Goals as goal

pub returns : goal.returns
returns c =
    tested c.args.self.now.len c.args.self.now.bits c.args.member c.checked_shr.result c.is_some_and.result c.args.self.now.within c.args.self.now.fits
    c.checked_shr.ensures (search rules)
