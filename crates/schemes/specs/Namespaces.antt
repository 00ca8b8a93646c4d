-- A namespace cut from a table is short. Assumes nothing.
use Rattle.std.specs.Prelude.{ℕ, ◌≤◌, List, length, take}
use Rattle.std.proofs.Common.{arith, length-take}
use Rattle.schemes.specs.Subjects.{longest}

pub cut_short : (n : ℕ) (bytes : List ℕ) (limit : ℕ) → n ≤ limit → limit ≤ longest → length (take n bytes) ≤ longest
cut_short n bytes limit h k = omega (arith, length-take n bytes)
