use Rattle.rolls.proofs.MemberLaws.{count_ones-is}
use Rattle.rolls.proofs.signers.Signers.count.Goals as goal

pub returns : goal.returns
returns c = count_ones-is c.args.self.now.len c.args.self.now.bits c.args.self.now.fits
