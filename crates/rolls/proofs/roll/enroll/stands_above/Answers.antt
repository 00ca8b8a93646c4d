use Rattle.std.proofs.Common.{rules}
use Rattle.rolls.proofs.Enrolling.{stands}
use Rattle.rolls.proofs.roll.enroll.stands_above.Goals as goal

pub returns : goal.returns
returns c = stands c.args.below c.args.key.now c.is_none_or.result (search rules)
