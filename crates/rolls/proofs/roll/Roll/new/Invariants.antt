use Rattle.buffers.specs.Items.{items}
use Rattle.rolls.specs.Roll.{raw_keys}
use Rattle.rolls.proofs.Enrolling.{Filled}
use Rattle.rolls.proofs.roll.Roll.new.Given as goal

abbrev pub invariant-loop-index : goal.invariant-loop-index
invariant-loop-index g l = Filled g.K.KeyCheck.meaning.is_key g.K.KeyCheck.key (raw_keys l.members) l.index (items l.keys) l.below
