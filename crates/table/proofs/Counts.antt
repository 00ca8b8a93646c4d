use Rattle.std.proofs.Common.{◌≡◌, ℕ, ◌<◌, ◌≤◌, Bool, true, cond, ◌&&◌, leb, List, [], ◌∷◌, get_or, Some, None, Option, sym, refl, ap, ◌∙◌, arith}
use Rattle.std.proofs.lemmas.Bool.Decides.{nat_tests}
use Rattle.std.proofs.lemmas.Str.Parse.{IsNumeralModel, numerals_by_value, tells_all_ascii_digits}
use Rattle.std.specs.Str.{all_ascii_digits}
use Rattle.std.specs.Str.Parse.{digits_value}
use Rattle.table.specs.Words.{max_bytes, Counted, count_of}

numerals : IsNumeralModel (λ cs. all_ascii_digits cs ≡ true) (digits_value 10)
numerals = numerals_by_value (λ cs. all_ascii_digits cs ≡ true) tells_all_ascii_digits

chosen : (b : Bool) (v : ℕ) → b ≡ true → v ≤ max_bytes → cond (b && leb v max_bytes) (Some v) None ≡ Some v
chosen b v e h = grind (arith, nat_tests)

not_chosen : (b : Bool) (v : ℕ) → (b ≡ true → max_bytes < v) → cond (b && leb v max_bytes) (Some v) None ≡ None
not_chosen b v h = grind (arith, nat_tests)

-- a decimal number up to the limit is the count
pub counted_is : (text : List ℕ) (r : Option ℕ) → Counted text r → r ≡ count_of text
counted_is [] None h = refl
counted_is [] (Some n) h = absurd (omega (arith, h.0.0))
counted_is (c ∷ cs) None h = sym (not_chosen (all_ascii_digits (c ∷ cs)) (digits_value 10 (c ∷ cs)) (λ e. h (omega arith, numerals.to (c ∷ cs) e)))
counted_is (c ∷ cs) (Some n) h =
    ap Some h.1 ∙ sym (chosen (all_ascii_digits (c ∷ cs)) (digits_value 10 (c ∷ cs)) (numerals.from (c ∷ cs) h.0.1) (omega (arith, h.1, h.2)))

-- a text that begins with a plus sign is no count
pub no_plus : (cs : List ℕ) → get_or cs 0 0 ≡ 43 → count_of cs ≡ None
no_plus [] e = refl
no_plus (c ∷ cs) e = ap (λ d. count_of (d ∷ cs)) e
