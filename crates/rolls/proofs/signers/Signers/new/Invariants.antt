use Rattle.rolls.proofs.Gathering.{Front}
use Rattle.rolls.proofs.signers.Signers.new.Given as goal

abbrev pub invariant-loop-index : goal.invariant-loop-index
invariant-loop-index l = Front l.length l.members l.index-index (record { len = l.signers.0; bits = l.signers.1.0 })
