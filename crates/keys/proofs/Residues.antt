-- Four bytes as a number, and the residue key's signatures. Assumes nothing.
use Rattle.std.proofs.Common.{◌≡◌, ℕ, ◌+◌, ◌*◌, ◌/◌, ◌%◌, ◌<◌, ◌≤◌, Bool, true, List, [], ◌∷◌, length, get_or, take, Decides, sym, refl, ap, ◌∙◌, arith}
use native.Mathlib.Nat.{add-mul-mod_self_left}
use Rattle.std.proofs.lemmas.Nat.{be_bytes_4}
use Rattle.std.proofs.lemmas.Grind.{common_steps}
use Rattle.std.specs.Int.Digits.{number_from_digits}
use Rattle.std.proofs.lemmas.Int.Digits.{number_more}
use Rattle.std.specs.Str.{bytes_eq}
use Rattle.std.proofs.lemmas.Slice.Eq.{bytes_eq-Decides}
use Rattle.std.proofs.lemmas.Bool.Decides.{same_from_decides}
use Rattle.keys.specs.Bytes.{big_endian}
use Rattle.keys.proofs.Octets.{Octets}
use Rattle.keys.specs.Residue.{residue_hash, residue_signature, residue_good}
use Rattle.keys.specs.Signed.{within}
use Rattle.keys.specs.ResidueLaws.{number_four, four_key}

-- four bytes one by one, and their number
pub four_shape : (bs : List ℕ) → length bs ≡ 4 → bs ≡ get_or bs 0 0 ∷ get_or bs 1 0 ∷ get_or bs 2 0 ∷ get_or bs 3 0 ∷ []
four_shape [] h = absurd (omega arith)
four_shape (a ∷ []) h = absurd (omega arith)
four_shape (a ∷ b ∷ []) h = absurd (omega arith)
four_shape (a ∷ b ∷ c ∷ []) h = absurd (omega arith)
four_shape (a ∷ b ∷ c ∷ d ∷ []) h = refl
four_shape (a ∷ b ∷ c ∷ d ∷ e ∷ r) h = absurd (omega arith)

pub four_number : (bs : List ℕ) → length bs ≡ 4 → get_or bs 0 0 * 16777216 + get_or bs 1 0 * 65536 + get_or bs 2 0 * 256 + get_or bs 3 0 ≡ number_from_digits 256 bs
four_number bs h =
    let n : get_or bs 0 0 * 16777216 + get_or bs 1 0 * 65536 + get_or bs 2 0 * 256 + get_or bs 3 0 ≡ number_from_digits 256 (get_or bs 0 0 ∷ get_or bs 1 0 ∷ get_or bs 2 0 ∷ get_or bs 3 0 ∷ []) = omega arith in
    n ∙ sym (ap (number_from_digits 256) (four_shape bs h))

-- four bytes are those of their number
pub four_bytes : (bs : List ℕ) (n : ℕ) → length bs ≡ 4 → Octets bs → n ≡ number_from_digits 256 bs → big_endian 4 n ≡ bs
four_bytes bs n h t e = grind (arith, common_steps, be_bytes_4)

-- one more byte of a payload
pub hash_more : (bs : List ℕ) (i h : ℕ) → i < length bs → h ≡ residue_hash (take i bs) → (h * 256 + get_or bs i 0) % 65521 ≡ residue_hash (take (i + 1) bs)
unfolding residue_hash
hash_more bs i h l e =
    let n = number_more 256 bs i l in
    let q : number_from_digits 256 (take (i + 1) bs) ≡ (h * 256 + get_or bs i 0) + 65521 * (number_from_digits 256 (take i bs) / 65521 * 256) = omega arith in
    sym (ap (λ z. z % 65521) q ∙ add-mul-mod_self_left (h * 256 + get_or bs i 0) 65521 (number_from_digits 256 (take i bs) / 65521 * 256))

-- of a key of the right range, which signature is good
pub good-signature : (n : ℕ) (p s : List ℕ) → 1 ≤ n → n < 65521 → residue_good (big_endian 4 n) p s ≡ bytes_eq s (residue_signature n p)
unfolding residue_good
good-signature n p s l h = rw (four_key n l h, number_four n h) refl

pub good_decided : (n : ℕ) (p s t : List ℕ) (r : Bool) → 1 ≤ n → n < 65521 → t ≡ residue_signature n p → Decides r (s ≡ t) → r ≡ residue_good (big_endian 4 n) p s
good_decided n p s t r l h e d =
    same_from_decides r (bytes_eq s t) d (bytes_eq-Decides s t) ∙ (ap (bytes_eq s) e ∙ sym (good-signature n p s l h))

-- a signature is short enough to be kept whole
pub good_itself : (n : ℕ) (p s : List ℕ) → 1 ≤ n → n < 65521 → s ≡ within (residue_signature n p) → residue_good (big_endian 4 n) p s ≡ true
unfolding residue_signature
good_itself n p s l h e = good-signature n p s l h ∙ (bytes_eq-Decides s (residue_signature n p)).1 e
