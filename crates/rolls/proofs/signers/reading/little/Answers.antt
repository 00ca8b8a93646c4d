use Rattle.std.proofs.Common.{ℕ, ◌++◌, length, drop, replicate, ap}
use Rattle.rolls.proofs.Readings.{little_is}
use Rattle.rolls.proofs.signers.reading.little.Goals as goal

pub returns : goal.returns
returns c =
    let after = drop (length c.args.bytes.now) (replicate {A = ℕ} 8 0) in
    little_is c.args.bytes.now (c.copy_from_slice.new.self ++ after) c.from_le_bytes.result c.requires (ap (λ z. z ++ after) c.copy_from_slice.ensures.after) c.from_le_bytes.ensures
