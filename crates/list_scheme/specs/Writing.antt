-- How a list certificate is written: a bitmap, a count, the signatures. Assumes nothing.
use Rattle.std.specs.Prelude.{◌≡◌, ℕ, ◌^◌, ◌<◌, ◌≤◌, min, List, ◌++◌, length}
use Rattle.std.specs.List.{AllByRecursion, concat}
use Rattle.refusals.specs.Limits.{max_members}
use Rattle.keys.specs.Varint.{varint}
use Rattle.rolls.specs.Bitmap.{bitmap_written}
use Rattle.schemes.specs.Judging.{Parts, named}

unfoldable pub list_written : Parts → List ℕ
list_written p = bitmap_written p.bitmap ++ (varint (length p.signatures) ++ concat p.signatures)

-- a certificate that can be read with a bound: its length is within it, with no bit at or above; it names somebody, and has
-- a signature of the width for each
pub record Readable (width bound : ℕ) (p : Parts) : Type 0 where
  pub within : p.bitmap.len ≤ min bound max_members
  pub below : p.bitmap.bits < 2 ^ p.bitmap.len
  pub somebody : 1 ≤ length (named p)
  pub paired : length p.signatures ≡ length (named p)
  pub wide : AllByRecursion (λ s. length s ≡ width) p.signatures
