use Rattle.std.proofs.Common.{rules}
use Rattle.rolls.proofs.BitLaws.{over}
use Rattle.rolls.proofs.signers.Signers.from_bits.Goals as goal

pub returns-then-is_some_and : goal.returns-then-is_some_and
returns-then-is_some_and c = over c.args.len c.args.bits c.checked_shr.result c.checked_shr.ensures (search rules)
