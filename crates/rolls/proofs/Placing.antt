-- Where each member stands in the writing of a bitmap. Assumes nothing.
use Rattle.std.proofs.Common.{◌≡◌, ℕ, zero, suc, ◌+◌, ◌*◌, ◌/◌, ◌%◌, ◌^◌, ◌<◌, ◌≤◌, eqb, List, length, get_or, take, IfOk, Ok, Err, Result, OnOk, sym, ap, ◌∙◌, arith}
use Rattle.std.specs.Int.Digits.{number_from_digits}
use Rattle.std.proofs.lemmas.Nat.{shr-shr}
use Rattle.std.proofs.lemmas.Nat.Bits.{bit_at_cat_low}
use Rattle.std.proofs.lemmas.List.{take-take, take_at, get_or-take, get_or-append-add, length-take}
use Rattle.refusals.specs.declared.fault.BitmapFault.{BitmapFault}
use Rattle.refusals.specs.declared.refusal.Refusal.{Refusal}
use Rattle.keys.specs.Bytes.{big_endian, little_endian, overlaid}
use Rattle.rolls.specs.Bitmap.{Bitmap, has, bitmap_size, bitmap_written}
use Rattle.rolls.specs.Signers.{bitmap, written_size, LaidOut, Written}
use Rattle.rolls.specs.declared.signers.Signers.{Signers}
use Rattle.rolls.proofs.BitLaws.{has_above}
use Rattle.rolls.proofs.Readings.{big_back}
use Rattle.rolls.proofs.Writings.{length-written}

-- a bit of a number's lightest byte
has_low : (x t : ℕ) → t < 8 → has (x % 256) t ≡ has x t
has_low x t l =
    let e : x / 256 * 256 + x % 256 ≡ x = omega arith in
    ap (λ z. eqb z 1) (sym (bit_at_cat_low (x / 256) 8 (x % 256) t l)) ∙ ap (λ n. has n t) e

-- bit t of byte j, the lightest first
has_byte : (k x j t : ℕ) → j < k → t < 8 → has (get_or (little_endian k x) j 0) t ≡ has x (8 * j + t)
has_byte zero x j t l h = absurd (omega arith)
has_byte (suc k) x zero t l h = let e : t ≡ 8 * 0 + t = omega arith in has_low x t h ∙ ap (has x) e
has_byte (suc k) x (suc j) t l h =
    let e : 8 + (8 * j + t) ≡ 8 * suc j + t = omega arith in
    has_byte k (x / 256) j t (omega arith) h ∙ ap (λ z. eqb (z % 2) 1) (shr-shr x 8 (8 * j + t)) ∙ ap (has x) e

-- bit i of all the bytes
pub has_little : (k x i : ℕ) → i < 8 * k → has (get_or (little_endian k x) (i / 8) 0) (i % 8) ≡ has x i
has_little k x i l = let e : 8 * (i / 8) + i % 8 ≡ i = omega arith in has_byte k x (i / 8) (i % 8) (omega arith) (omega arith) ∙ ap (has x) e

-- bytes at whose front a bitmap is written
written_bit : (b : Bitmap) (bytes : List ℕ) (i : ℕ) → i < 8 * bitmap_size b.len → take (written_size b) bytes ≡ bitmap_written b
    → has (get_or bytes (8 + i / 8) 0) (i % 8) ≡ has b.bits i
unfolding bitmap_written
written_bit b bytes i l w =
    let m : 8 + i / 8 < written_size b = omega arith in
    ap (λ z. has z (i % 8))
    (sym (get_or-take (written_size b) bytes (8 + i / 8) 0 m)
    ∙ ap (λ z. get_or z (8 + i / 8) 0) w
    ∙ get_or-append-add (big_endian 8 b.len) (little_endian (bitmap_size b.len) b.bits) (i / 8) 0)
    ∙ has_little (bitmap_size b.len) b.bits i l

written-len : (b : Bitmap) (bytes : List ℕ) → b.len ≤ 64 → take (written_size b) bytes ≡ bitmap_written b → number_from_digits 256 (take 8 bytes) ≡ b.len
unfolding bitmap_written
written-len b bytes few w =
    let e : take 8 bytes ≡ big_endian 8 b.len = sym (take-take 8 (written_size b) bytes (omega arith)) ∙ ap (take 8) w in
    ap (number_from_digits 256) e ∙ big_back b.len few

pub laid_out : (b : Bitmap) (bytes : List ℕ) → b.len ≤ 64 → b.bits < 2 ^ b.len → take (written_size b) bytes ≡ bitmap_written b → LaidOut b bytes
laid_out b bytes few fits w =
    record {
      size = omega (arith, length-take (written_size b) bytes, ap length w, length-written b);
      len = written-len b bytes few w;
      each = λ i l. sym (written_bit b bytes i (omega arith) w);
      spare = λ i g l. written_bit b bytes i l w ∙ has_above b.len b.bits i fits g;
    }

-- the same of an answer
pub ok_laid_out : (bytes : List ℕ) (r : Result Signers BitmapFault) → IfOk r (λ s. take (written_size (bitmap s)) bytes ≡ bitmap_written (bitmap s))
    → IfOk r (λ s. LaidOut (bitmap s) bytes)
ok_laid_out bytes (Ok s) w = laid_out (bitmap s) bytes s.within s.fits w
ok_laid_out bytes (Err f) w = tt

-- a buffer after a set was written at its front
pub put_laid_out : (s : Signers) (out after : List ℕ) → after ≡ overlaid out 0 (bitmap_written (bitmap s)) → LaidOut (bitmap s) after
put_laid_out s out after e =
    laid_out (bitmap s) after s.within s.fits
    (ap (take (written_size (bitmap s))) e ∙ take_at (bitmap_written (bitmap s)) _ (written_size (bitmap s)) (length-written (bitmap s)))

-- the same of an answer
pub ok_put : (s : Signers) (out after : List ℕ) (r : Result ℕ Refusal) → Written (bitmap s) out after r → OnOk r (LaidOut (bitmap s) after)
ok_put s out after (Err e) w = tt
ok_put s out after (Ok n) w = put_laid_out s out after w.2
