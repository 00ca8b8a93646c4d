-- The residue key: numbers below a prime, a signature is a product. Assumes nothing.
use Rattle.std.specs.Prelude.{ℕ, ◌*◌, ◌%◌, Bool, ◌&&◌, List, length, ◌==◌, nat_le, nat_lt}
use Rattle.std.specs.Int.Digits.{number_from_digits}
use Rattle.std.specs.Str.{bytes_eq}
use Rattle.keys.specs.Bytes.{big_endian}
use Rattle.keys.specs.Meaning.{KeyMeaning}

abbrev pub modulus : ℕ
modulus = 65521

-- four bytes, a number from 1 to 65,520
abbrev pub is_residue_key : List ℕ → Bool
is_residue_key k = length k == 4 && (nat_le 1 (number_from_digits 256 k) && nat_lt (number_from_digits 256 k) modulus)

abbrev pub residue_decodes : List ℕ → Bool
residue_decodes s = length s == 4 && nat_lt (number_from_digits 256 s) modulus

-- the payload as one number in base 256, below the modulus
unfoldable pub residue_hash : List ℕ → ℕ
residue_hash payload = number_from_digits 256 payload % modulus

unfoldable pub residue_signature : ℕ → List ℕ → List ℕ
residue_signature key payload = big_endian 4 (key * residue_hash payload % modulus)

unfoldable pub residue_good : List ℕ → List ℕ → List ℕ → Bool
residue_good key payload signature = is_residue_key key && bytes_eq signature (residue_signature (number_from_digits 256 key) payload)

abbrev pub residue : KeyMeaning
residue = record { is_key = is_residue_key; width = 4; decodes = residue_decodes; good = residue_good }
