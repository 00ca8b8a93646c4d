-- A set of members below a length, written as a bitmap. Assumes nothing.
use Rattle.std.specs.Prelude.{ℕ, zero, suc, ◌+◌, ◌/◌, ◌%◌, ◌^◌, min, Bool, false, cond, ◌||◌, List, [], ◌∷◌, ◌++◌, length, take, drop, Ok, Err, Result, ◌==◌, nat_lt}
use Rattle.std.specs.Int.Digits.{number_from_digits}
use Rattle.refusals.specs.Limits.{max_members}
use Rattle.refusals.specs.declared.fault.BitmapFault.{BitmapFault}
use Rattle.refusals.specs.declared.fault.FaultKind.TheVariants.{EndOfBuffer, InvalidLength, Invalid}
use Rattle.keys.specs.Bytes.{big_endian, little_endian, little_number}

-- `bits` has the weight 2 ^ i just where member i is in the set
pub record Bitmap : Type 0 where
  pub len : ℕ
  pub bits : ℕ

abbrev pub has : ℕ → ℕ → Bool
has bits i = bits / 2 ^ i % 2 == 1

-- the members below n, ascending
abbrev pub members_below : ℕ → ℕ → List ℕ
members_below zero bits = []
members_below (suc n) bits = members_below n bits ++ cond (has bits n) (n ∷ []) []

abbrev pub members : Bitmap → List ℕ
members b = members_below b.len b.bits

abbrev pub among : ℕ → List ℕ → Bool
among i [] = false
among i (x ∷ xs) = x == i || among i xs

-- how many bytes hold n bits
abbrev pub bitmap_size : ℕ → ℕ
bitmap_size n = (n + 7) / 8

-- the length in eight bytes, then the bits, eight to a byte: `LaidOut` says where each member stands
unfoldable pub bitmap_written : Bitmap → List ℕ
bitmap_written b = big_endian 8 b.len ++ little_endian (bitmap_size b.len) b.bits

-- the bits of n members at the front of some bytes; no bit may stand at or above n
unfoldable pub read_bits : ℕ → List ℕ → Result Bitmap BitmapFault
read_bits n bs =
    cond (nat_lt (length bs) (bitmap_size n)) (Err (record { kind = EndOfBuffer; place = 8 }))
    (cond (nat_lt (little_number (take (bitmap_size n) bs)) (2 ^ n)) (Ok (record { len = n; bits = little_number (take (bitmap_size n) bs) }))
    (Err (record { kind = Invalid; place = 8 })))

-- a bitmap of at most so many members at the front of some bytes
unfoldable pub read_bitmap : ℕ → List ℕ → Result Bitmap BitmapFault
read_bitmap limit bs =
    cond (nat_lt (length bs) 8) (Err (record { kind = EndOfBuffer; place = 0 }))
    (cond (nat_lt (min limit max_members) (number_from_digits 256 (take 8 bs))) (Err (record { kind = InvalidLength; place = 0 }))
    (read_bits (number_from_digits 256 (take 8 bs)) (drop 8 bs)))
