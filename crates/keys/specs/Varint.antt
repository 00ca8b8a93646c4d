-- Unsigned LEB128 in its shortest form, for numbers of at most 32 bits. Assumes nothing.
use Rattle.std.specs.Prelude.{ℕ, zero, suc, ◌+◌, ◌*◌, ◌/◌, ◌%◌, ◌^◌, Bool, false, cond, not, ◌&&◌, ◌||◌, List, [], ◌∷◌, length, Ok, Err, Result, nat_lt}
use Rattle.std.specs.Str.{bytes_eq}
use Rattle.refusals.specs.declared.fault.FaultKind.{FaultKind}
use Rattle.refusals.specs.declared.fault.FaultKind.TheVariants as kinds
use Rattle.keys.specs.declared.varint.Varint.{Varint}
use Rattle.keys.specs.declared.varint.VarintFault.{VarintFault}
use Rattle.keys.specs.declared.varint.VarintFault.TheVariants.{EndOfBuffer, Invalid}

-- groups of seven bits, the least significant first, with 128 added to each but the last; at most k of them
abbrev pub groups : ℕ → ℕ → List ℕ
groups zero n = []
groups (suc k) n = cond (nat_lt n 128) (n ∷ []) ((128 + n % 128) ∷ groups k (n / 128))

-- the writing of a number below 2 ^ 32
unfoldable pub varint : ℕ → List ℕ
varint n = groups 5 n

-- the number that groups write
abbrev pub grouped : List ℕ → ℕ
grouped [] = 0
grouped (b ∷ bs) = b % 128 + 128 * grouped bs

-- the bytes at the front up to the first below 128, at most k of them
abbrev pub field : ℕ → List ℕ → List ℕ
field zero bs = []
field (suc k) [] = []
field (suc k) (b ∷ bs) = cond (nat_lt b 128) (b ∷ []) (b ∷ field k bs)

-- some byte is below 128
abbrev pub closed : List ℕ → Bool
closed [] = false
closed (b ∷ bs) = nat_lt b 128 || closed bs

-- a field is good when it is the writing of its number
abbrev pub judged : List ℕ → Result Varint VarintFault
judged f = cond (nat_lt (grouped f) (2 ^ 32) && bytes_eq (varint (grouped f)) f) (Ok (record { value = grouped f; size = length f })) (Err Invalid)

-- what reading the front of some bytes gives; they end too early when fewer than five are there, none below 128
unfoldable pub read_varint : List ℕ → Result Varint VarintFault
read_varint bs = cond (nat_lt (length bs) 5 && not (closed bs)) (Err EndOfBuffer) (judged (field 5 bs))

-- the kind of fault that a caller meets
abbrev pub fault_kind : VarintFault → FaultKind
fault_kind EndOfBuffer = kinds.EndOfBuffer
fault_kind Invalid = kinds.Invalid
