use Rattle.std.proofs.Common.{◌∙◌}
use Rattle.rolls.proofs.Writings.{sixteen}
use Rattle.rolls.proofs.signers.Signers.bytes.Goals as goal

pub returns : goal.returns
returns c =
    sixteen c.args.self.now.len c.args.self.now.bits _ _ (c.copy_from_slice.ensures.after ∙ c.to_be_bytes.ensures) (c.copy_from_slice-2.ensures.after ∙ c.to_le_bytes.ensures)
