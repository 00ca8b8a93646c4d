-- A list certificate, field by field. Assumes nothing.
use Rattle.std.proofs.Common.{◌≡◌, ℕ, ◌+◌, ◌*◌, ◌≤◌, min, ◌≢◌, List, length, drop, Ok, refl, ◌∙◌, arith}
use Rattle.std.proofs.lemmas.List.{length-drop}
use Rattle.std.proofs.lemmas.Bool.{le-ltb, ne_eqb}
use Rattle.refusals.specs.Limits.{max_members}
use Rattle.keys.specs.Varint.{read_varint}
use Rattle.keys.specs.declared.varint.Varint.{Varint}
use Rattle.rolls.specs.Bitmap.{Bitmap, members, read_bitmap}
use Rattle.rolls.specs.Signers.{written_size}
use Rattle.rolls.proofs.Readings.{read_from}
use Rattle.list_scheme.specs.Reading.{signatures, finished, listed, read_list}

-- the bitmap lies within the bytes
pub bitmap-within : (bound : ℕ) (bs : List ℕ) (b : Bitmap) → read_bitmap bound bs ≡ Ok b → written_size b ≤ length bs
bitmap-within bound bs b h = let r = read_from bound bs b h in let e = r.eight in let l = r.long in let d = length-drop 8 bs in omega arith

-- what is read behind a bitmap that names somebody
module _ (width bound : ℕ) (bs : List ℕ) (b : Bitmap) (e : read_bitmap bound bs ≡ Ok b) (some : length (members b) ≢ 0) where
  pub reads_count : read_list width bound bs ≡ listed width bound b (written_size b) bs (read_varint (drop (written_size b) bs))
  unfolding read_list
  reads_count = rw (e, ne_eqb (length (members b)) 0 some) refl

  pub reads_signatures : (v : Varint) → read_varint (drop (written_size b) bs) ≡ Ok v → v.value ≤ min bound max_members
      → read_list width bound bs
      ≡ finished b (written_size b) (written_size b + v.size + v.value * width) (length bs) (signatures width v.value (written_size b + v.size) (drop (written_size b + v.size) bs))
  reads_signatures v r h = reads_count ∙ rw (r, le-ltb (min bound max_members) v.value h) refl
