-- The laws of the residue key. Assumes nothing.
use Rattle.std.specs.Prelude.{◌≡◌, ℕ, ◌*◌, ◌%◌, ◌<◌, ◌≤◌, true, List}
use Rattle.std.proofs.Common.{ap, ◌∙◌, arith}
use Rattle.std.specs.Int.Digits.{number_from_digits}
use Rattle.std.proofs.lemmas.Slice.Eq.{bytes_eq-Decides}
use Rattle.std.proofs.lemmas.Bool.Decides.{nat_tests}
use Rattle.keys.specs.Bytes.{big_endian}
use Rattle.keys.specs.Meaning.{KeyLaws}
use Rattle.keys.specs.Residue.{modulus, is_residue_key, residue_decodes, residue_hash, residue_signature, residue_good, residue}

-- four bytes write the number that they were made of
pub number_four : (n : ℕ) → n < 65521 → number_from_digits 256 (big_endian 4 n) ≡ n
number_four n h = omega arith

pub four_key : (n : ℕ) → 1 ≤ n → n < 65521 → is_residue_key (big_endian 4 n) ≡ true
four_key n l h = grind (arith, nat_tests, number_four n h)

pub four_decodes : (n : ℕ) → n < 65521 → residue_decodes (big_endian 4 n) ≡ true
four_decodes n h = grind (arith, nat_tests, number_four n h)

good-parts : (k p s : List ℕ) → residue_good k p s ≡ true → (is_residue_key k ≡ true) × (s ≡ residue_signature (number_from_digits 256 k) p)
unfolding residue_good
good-parts k p s e = grind (arith, nat_tests, bytes_eq-Decides)

signature-decodes : (n : ℕ) (p : List ℕ) → residue_decodes (residue_signature n p) ≡ true
unfolding residue_signature
signature-decodes n p = four_decodes (n * residue_hash p % modulus) (omega arith)

pub residue_laws : KeyLaws residue
residue_laws = record {
  some = omega arith;
  narrow = omega arith;
  short = λ k e. grind (arith, nat_tests);
  wide = λ s e. grind (arith, nat_tests);
  good_decodes = λ k p s e. ap residue_decodes (good-parts k p s e).1 ∙ signature-decodes (number_from_digits 256 k) p;
  good_key = λ k p s e. (good-parts k p s e).0;
}
