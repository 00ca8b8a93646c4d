-- Quorums. Assumes nothing.
use Rattle.std.specs.Prelude.{ℕ, ◌-◌, ◌/◌}
use Rattle.rolls.specs.declared.faults.Faults.{Faults}
use Rattle.rolls.specs.declared.faults.Faults.TheVariants.{N3f1, N5f1}

-- how many of n members may be faulty
abbrev pub faulty : Faults → ℕ → ℕ
faulty N3f1 n = (n - 1) / 3
faulty N5f1 n = (n - 1) / 5

abbrev pub quorum : Faults → ℕ → ℕ
quorum f n = n - faulty f n
