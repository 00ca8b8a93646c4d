-- Lists of bytes. Assumes nothing.
use Rattle.std.proofs.Common.{ℕ, ◌<◌, List, get_or}

-- numbers that bytes hold
abbrev pub Octets : List ℕ → Type 0
Octets bytes = (k : ℕ) → get_or bytes k 0 < 256
