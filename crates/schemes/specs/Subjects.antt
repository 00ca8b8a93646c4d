-- What a subject says, and its namespaces. Assumes nothing.
use Rattle.std.specs.Prelude.{ℕ, ◌/◌, List, [], ◌∷◌, ◌++◌}
use Rattle.keys.specs.Bytes.{big_endian}

-- what a subject means to a scheme
pub record Said : Type 0 where
  pub message : List ℕ

-- a plain subject takes the base namespace as it is
abbrev pub plain : List ℕ → List ℕ
plain base = base

-- an edition adds the two characters -E
abbrev pub edition : List ℕ → List ℕ
edition base = base ++ 45 ∷ 69 ∷ []

-- the most bytes of a namespace so derived from a base within its limit
abbrev pub longest : ℕ
longest = 66

-- whole days since 1970
abbrev pub day : ℕ → ℕ
day seconds = seconds / 86400

-- channel, day, number, and the digest of the playlist
abbrev pub edition_message : ℕ → ℕ → ℕ → List ℕ → List ℕ
edition_message channel seconds number digest = big_endian 2 channel ++ (big_endian 4 (day seconds) ++ (big_endian 2 number ++ digest))
