-- The bitmap of a set of signers, written and read. Assumes nothing.
use Rattle.std.specs.Prelude.{◌≡◌, ℕ, ◌+◌, ◌*◌, ◌/◌, ◌%◌, ◌<◌, ◌≤◌, false, cond, List, length, take, Ok, Err, Result, nat_lt, slice_index}
use Rattle.std.specs.Int.Digits.{number_from_digits}
use Rattle.refusals.specs.Faults.{layered}
use Rattle.refusals.specs.declared.fault.BitmapFault.{BitmapFault}
use Rattle.refusals.specs.declared.fault.CertificateFault.{CertificateFault}
use Rattle.refusals.specs.declared.fault.FaultKind.TheVariants.{ExtraData}
use Rattle.refusals.specs.declared.fault.Layer.TheVariants.{Certificate}
use Rattle.refusals.specs.declared.refusal.Refusal.{Refusal}
use Rattle.refusals.specs.declared.refusal.Refusal.TheVariants.{SmallBuffer}
use Rattle.keys.specs.Bytes.{overlaid}
use Rattle.rolls.specs.Bitmap.{Bitmap, has, bitmap_size, bitmap_written, read_bitmap}
use Rattle.rolls.specs.declared.signers.Signers.{Signers}

abbrev pub bitmap : Signers → Bitmap
bitmap s = record { len = s.len; bits = s.bits }

-- the bytes of a bitmap's writing
abbrev pub written_size : Bitmap → ℕ
written_size b = 8 + bitmap_size b.len

-- bytes at whose front a bitmap stands: its length in the first eight, the most significant first, then its bits, eight to a byte.
-- Member i is in the set just where bit i mod 8 of byte 8 + i / 8 is set; a bit at or above the length is not set
pub record LaidOut (b : Bitmap) (bytes : List ℕ) : Type 0 where
  pub size : written_size b ≤ length bytes
  pub len : number_from_digits 256 (take 8 bytes) ≡ b.len
  pub each : (i : ℕ) → i < b.len → has b.bits i ≡ has (slice_index bytes (8 + i / 8)) (i % 8)
  pub spare : (i : ℕ) → b.len ≤ i → i < 8 * bitmap_size b.len → has (slice_index bytes (8 + i / 8)) (i % 8) ≡ false

-- a buffer before and after a bitmap is written at its front, and the answer: its size, or that there is no room
abbrev pub Written : Bitmap → List ℕ → List ℕ → Result ℕ Refusal → Type 0
Written b before after (Ok n) = (n ≡ written_size b) × (n ≤ length before) × (after ≡ overlaid before 0 (bitmap_written b))
Written b before after (Err e) = (length before < written_size b) × (e ≡ SmallBuffer (written_size b)) × (after ≡ before)

-- bytes that are a bitmap and nothing behind it
abbrev pub whole : List ℕ → Result Bitmap BitmapFault → Result Bitmap CertificateFault
whole bs (Ok b) = cond (nat_lt (written_size b) (length bs)) (Err (record { kind = ExtraData; layer = Certificate; place = written_size b })) (Ok b)
whole bs (Err f) = Err (layered f)

abbrev pub decode_bitmap : ℕ → List ℕ → Result Bitmap CertificateFault
decode_bitmap limit bs = whole bs (read_bitmap limit bs)
