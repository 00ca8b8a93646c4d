-- The keys of roll W: 2, 3, 5 and 7. Assumes nothing.
use Rattle.std.specs.Prelude.{ℕ, List, [], ◌∷◌, map}
use Rattle.keys.specs.Bytes.{big_endian}

abbrev pub keys_of_w : List (List ℕ)
keys_of_w = map (big_endian 4) (2 ∷ 3 ∷ 5 ∷ 7 ∷ [])
