-- The writing of a bitmap. Assumes nothing.
use Rattle.std.proofs.Common.{◌≡◌, ℕ, zero, suc, ◌+◌, ◌/◌, ◌%◌, ◌<◌, ◌≤◌, List, ◌∷◌, ◌++◌, length, take, replicate, Some, None, Option, Result, refl, ap, ◌∙◌, div-one, arith, MatchOption, ok_or}
use borrow.Rule.Slice.PartMut.{put_mid}
use Rattle.std.specs.Int.{w64, to_be_bytes, to_le_bytes}
use Rattle.refusals.specs.declared.refusal.Refusal.{Refusal}
use Rattle.refusals.specs.declared.refusal.Refusal.TheVariants.{SmallBuffer}
use native.Mathlib.Nat.{div-div-eq-div-mul}
use lib.Seq.{take-append-add}
use Rattle.std.proofs.lemmas.List.{length-append}
use Rattle.keys.specs.Bytes.{big_endian, little_endian, overlaid}
use Rattle.rolls.specs.Bitmap.{Bitmap, bitmap_size, bitmap_written}
use Rattle.rolls.specs.Signers.{written_size, Written}

-- a number has as many bytes as it is written in
pub length-big_endian : (n x : ℕ) → length (big_endian n x) ≡ n
length-big_endian zero x = refl
length-big_endian (suc n) x = ap suc (length-big_endian n x)

pub length-little_endian : (n x : ℕ) → length (little_endian n x) ≡ n
length-little_endian zero x = refl
length-little_endian (suc n) x = ap suc (length-little_endian n (x / 256))

pub length-written : (b : Bitmap) → length (bitmap_written b) ≡ written_size b
unfolding bitmap_written
length-written b =
    length-append (big_endian 8 b.len) (little_endian (bitmap_size b.len) b.bits)
    ∙ ap (λ n. 8 + n) (length-little_endian (bitmap_size b.len) b.bits)

take_little : (m n x : ℕ) → m ≤ n → take m (little_endian n x) ≡ little_endian m x
take_little zero n x h = refl
take_little (suc m) zero x h = absurd (omega arith)
take_little (suc m) (suc n) x h = ap (λ z. (x % 256) ∷ z) (take_little m n (x / 256) (omega arith))

-- a number's eight bytes, as the library writes them
pub big-is : (x : ℕ) → to_be_bytes w64 x ≡ big_endian 8 x
big-is x = let d = div-one x in cc

little-is : (x : ℕ) → to_le_bytes w64 x ≡ little_endian 8 x
little-is x =
    let d2 : x / 256 / 256 ≡ x / 65536 = div-div-eq-div-mul x 256 256 in
    let d3 : x / 256 / 256 / 256 ≡ x / 16777216 = ap (λ z. z / 256) d2 ∙ div-div-eq-div-mul x 65536 256 in
    let d4 : x / 256 / 256 / 256 / 256 ≡ x / 4294967296 = ap (λ z. z / 256) d3 ∙ div-div-eq-div-mul x 16777216 256 in
    let d5 : x / 256 / 256 / 256 / 256 / 256 ≡ x / 1099511627776 = ap (λ z. z / 256) d4 ∙ div-div-eq-div-mul x 4294967296 256 in
    let d6 : x / 256 / 256 / 256 / 256 / 256 / 256 ≡ x / 281474976710656 = ap (λ z. z / 256) d5 ∙ div-div-eq-div-mul x 1099511627776 256 in
    let d7 : x / 256 / 256 / 256 / 256 / 256 / 256 / 256 ≡ x / 72057594037927936 = ap (λ z. z / 256) d6 ∙ div-div-eq-div-mul x 281474976710656 256 in
    cc

-- the length's eight bytes and the bits' eight, laid into sixteen
pub sixteen : (x y : ℕ) (a b : List ℕ) → a ≡ to_be_bytes w64 x → b ≡ to_le_bytes w64 y
    → put_mid 8 8 (a ++ replicate {A = ℕ} 8 0) b ≡ big_endian 8 x ++ little_endian 8 y
sixteen x y a b e f = rw (e ∙ big-is x, f ∙ little-is y) refl

pub written_is : (b : Bitmap) (bytes : List ℕ) (size : ℕ) → b.len ≤ 64 → size ≡ written_size b → bytes ≡ big_endian 8 b.len ++ little_endian 8 b.bits
    → take size bytes ≡ bitmap_written b
unfolding bitmap_written
written_is b bytes size few e f =
    let m : bitmap_size b.len ≤ 8 = omega arith in
    rw (e, f)
    (take-append-add (big_endian 8 b.len) (little_endian 8 b.bits) (bitmap_size b.len)
    ∙ ap (λ t. big_endian 8 b.len ++ t) (take_little (bitmap_size b.len) 8 b.bits m))

-- what is put at the front of a buffer
pub put_written : (b : Bitmap) (out after bytes : List ℕ) (size : ℕ) (o : Option ℕ) (r : Result ℕ Refusal) → b.len ≤ 64 → size ≡ written_size b
    → bytes ≡ big_endian 8 b.len ++ little_endian 8 b.bits
    → MatchOption o ((length out < 0 + length (take size bytes)) × (after ≡ out)) (λ end. (end ≡ 0 + length (take size bytes)) × (end ≤ length out) × (after ≡ overlaid out 0 (take size bytes)))
    → r ≡ ok_or o (SmallBuffer size) → Written b out after r
put_written b out after bytes size None r few e f g h =
    let l : length (take size bytes) ≡ written_size b = ap length (written_is b bytes size few e f) ∙ length-written b in
    rw h (omega (arith, g.0), ap SmallBuffer e, g.1)
put_written b out after bytes size (Some end) r few e f g h =
    let w = written_is b bytes size few e f in
    let l : length (take size bytes) ≡ written_size b = ap length w ∙ length-written b in
    rw h (omega (arith, g.0), g.1, g.2 ∙ ap (λ t. overlaid out 0 t) w)
