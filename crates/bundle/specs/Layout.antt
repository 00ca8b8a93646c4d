-- How a bundle is written and read. Assumes nothing.
use Rattle.std.specs.Prelude.{ℕ, zero, suc, ◌+◌, ◌≤◌, cond, List, [], ◌∷◌, ◌++◌, length, take, drop, Ok, Err, Result, ◌==◌, nat_lt}
use Rattle.std.specs.Int.Digits.{number_from_digits}
use Rattle.std.specs.List.{AllByRecursion}
use Rattle.refusals.specs.Limits.{max_message, max_certificates}
use Rattle.refusals.specs.declared.fault.BundleFault.{BundleFault}
use Rattle.refusals.specs.declared.fault.FaultKind.{FaultKind}
use Rattle.refusals.specs.declared.fault.FaultKind.TheVariants.{EndOfBuffer, InvalidLength, ExtraData}
use Rattle.refusals.specs.declared.fault.Layer.TheVariants as layers
use Rattle.keys.specs.Bytes.{big_endian}
use Rattle.refusals.specs.Results.{map_ok}

-- an entry: a message, a certificate's bytes, and the place where these begin
pub record Raw : Type 0 where
  pub message : List ℕ
  pub place : ℕ
  pub certificate : List ℕ

abbrev pub fault : FaultKind → ℕ → BundleFault
fault kind place = record { kind = kind; layer = layers.Bundle; place = place }

abbrev pub prefix : List ℕ → ℕ
prefix bs = number_from_digits 256 (take 2 bs)

-- a field at a place: its length in two bytes, at most a limit, and as many bytes behind it
unfoldable pub field : ℕ → ℕ → List ℕ → Result (List ℕ) BundleFault
field limit at bs =
    cond (nat_lt (length bs) 2) (Err (fault EndOfBuffer at))
    (cond (nat_lt limit (prefix bs)) (Err (fault InvalidLength at))
    (cond (nat_lt (length (drop 2 bs)) (prefix bs)) (Err (fault EndOfBuffer (at + 2)))
    (Ok (take (prefix bs) (drop 2 bs)))))

abbrev pub closing : List ℕ → ℕ → Result (List ℕ) BundleFault → Result Raw BundleFault
closing m at (Err f) = Err f
closing m at (Ok c) = Ok (record { message = m; place = at + 2; certificate = c })

-- any length that two bytes hold
abbrev pub max_prefix : ℕ
max_prefix = 65535

abbrev pub opening : ℕ → List ℕ → Result (List ℕ) BundleFault → Result Raw BundleFault
opening at bs (Err f) = Err f
opening at bs (Ok m) = closing m (at + 2 + length m) (field max_prefix (at + 2 + length m) (drop (2 + length m) bs))

-- an entry at a place: a message, then a certificate
unfoldable pub entry : ℕ → List ℕ → Result Raw BundleFault
entry at bs = opening at bs (field max_message at bs)

abbrev pub size : Raw → ℕ
size r = 2 + length r.message + (2 + length r.certificate)

abbrev pub following : Result Raw BundleFault → (Raw → Result (List Raw) BundleFault) → Result (List Raw) BundleFault
following (Err f) rest = Err f
following (Ok r) rest = map_ok (λ rs. r ∷ rs) (rest r)

-- so many entries from a place on, and nothing behind them
abbrev pub entries : ℕ → ℕ → List ℕ → Result (List Raw) BundleFault
entries zero at bs = cond (length bs == 0) (Ok []) (Err (fault ExtraData at))
entries (suc k) at bs = following (entry at bs) (λ r. entries k (at + size r) (drop (size r) bs))

-- a bundle: how many entries, in two bytes, and these
unfoldable pub bundle : List ℕ → Result (List Raw) BundleFault
bundle bs =
    cond (nat_lt (length bs) 2) (Err (fault EndOfBuffer 0))
    (cond (nat_lt max_certificates (prefix bs)) (Err (fault InvalidLength 0))
    (entries (prefix bs) 2 (drop 2 bs)))

-- a message and a certificate's bytes, wherever they lie
pub record Pair : Type 0 where
  pub message : List ℕ
  pub certificate : List ℕ

abbrev pub pair_of : Raw → Pair
pair_of r = record { message = r.message; certificate = r.certificate }

-- the bytes of a field, of entries, of a bundle
abbrev pub field_written : List ℕ → List ℕ
field_written bs = big_endian 2 (length bs) ++ bs

abbrev pub entries_written : List Raw → List ℕ
entries_written [] = []
entries_written (r ∷ rs) = field_written r.message ++ (field_written r.certificate ++ entries_written rs)

abbrev pub bundle_written : List Raw → List ℕ
bundle_written rs = big_endian 2 (length rs) ++ entries_written rs

-- within the limits: a message and its certificate, and how many there are
abbrev pub Short : Raw → Type 0
Short r = (length r.message ≤ max_message) × (length r.certificate ≤ max_prefix)

abbrev pub Limited : List Raw → Type 0
Limited rs = (length rs ≤ max_certificates) × AllByRecursion Short rs
