use Rattle.std.proofs.Common.{◌≡◌, ℕ, ◌<◌, ◌≤◌, eqb, List, [], ◌∷◌, length, Some, None, Option, sym, refl, ap, ◌∙◌, ⊎_elim, arith, lit<, Bor}
use Rattle.std.proofs.lemmas.Bool.{cases_lt, eqb-true}
use Rattle.std.proofs.lemmas.List.Splits.{slice_split_none, slice_split_first, length-slice_split}
use Rattle.std.proofs.lemmas.List.Sums.{fails_before_first, passes_at_first}
use Rattle.std.proofs.lemmas.Str.Parse.{digit_at}
use Rattle.std.proofs.lemmas.Str.Pattern.{IsSplitOnceResult, split_once_first}
use Rattle.std.specs.List.{position_or_len, before_first, after_first}
use Rattle.table.specs.Hex.{hex_byte, hex_bytes}
use Rattle.table.specs.Words.{split_at, count_of, repeated, some_hex, of_parts, word_bytes}
use Rattle.table.proofs.Counts.{counted_is}

one_part : (mark : ℕ) (cs : List ℕ) → length cs ≤ position_or_len (λ c. eqb c mark) cs → split_at mark cs ≡ cs ∷ []
one_part mark cs e = slice_split_none (λ c. eqb c mark) cs (λ k d l. fails_before_first (λ c. eqb c mark) cs k d (omega arith))

-- an empty word has no bytes
pub empty_word : (word : List ℕ) → length word ≡ 0 → word_bytes word ≡ None
empty_word [] e = refl
empty_word (c ∷ cs) e = absurd (omega arith)

some_digits : (word : List ℕ) → 0 < length word → some_hex word ≡ hex_bytes word
some_digits [] h = absurd (omega arith)
some_digits (c ∷ cs) h = refl

several : (digits count : List ℕ) (rest : List (List ℕ)) → 0 < length rest → of_parts (digits ∷ count ∷ rest) ≡ None
several digits count [] h = absurd (omega arith)
several digits count (more ∷ rest) h = refl

pub repeated-none : (byte : Option ℕ) → repeated byte None ≡ None
repeated-none None = refl
repeated-none (Some b) = refl

-- a text with a star is no count
starred_count : (cs : List ℕ) → position_or_len (λ c. eqb c 42) cs < length cs → count_of cs ≡ None
starred_count cs l = sym (counted_is cs None (λ numeral. absurd (
    let star = eqb-true _ 42 (passes_at_first (λ c. eqb c 42) cs 0 l) in
    let digit = digit_at cs _ numeral.1 l in
    omega (arith, star, digit))))

-- the parts behind a first star are one count, or the word is bad
pub count_behind : (digits cs : List ℕ) → of_parts (digits ∷ split_at 42 cs) ≡ repeated (hex_byte digits) (count_of cs)
count_behind digits cs =
    ⊎_elim
    (λ l.
    ap (λ ps. of_parts (digits ∷ ps)) (slice_split_first (λ c. eqb c 42) cs 0 l)
    ∙ several digits (before_first (λ c. eqb c 42) cs) _ (omega (arith, length-slice_split (λ c. eqb c 42) (after_first (λ c. eqb c 42) cs)))
    ∙ sym (ap (repeated (hex_byte digits)) (starred_count cs l) ∙ repeated-none (hex_byte digits)))
    (λ l. ap (λ ps. of_parts (digits ∷ ps)) (one_part 42 cs l))
    (cases_lt (position_or_len (λ c. eqb c 42) cs) (length cs))

-- a word without a star is hex
pub plain_word : (word digits : List ℕ) → 0 < length word → IsSplitOnceResult 42 word None → digits ≡ word → word_bytes word ≡ hex_bytes digits
plain_word word digits some h e =
    let whole = split_once_first 42 word None h (lit< tt) in
    ap of_parts (one_part 42 word (omega arith)) ∙ some_digits word some ∙ ap hex_bytes (sym e)

-- and one with a star is a byte, and a count of it
pub starred_word : (word digits : List ℕ) (x : Bor (List ℕ) × Bor (List ℕ)) (byte count : Option ℕ) → IsSplitOnceResult 42 word (Some x)
    → digits ≡ x.0.now → byte ≡ hex_byte digits → count ≡ count_of x.1.now → word_bytes word ≡ repeated byte count
starred_word word digits x byte count h e b n =
    let cut = split_once_first 42 word (Some x) h (lit< tt) in
    ap of_parts (slice_split_first (λ c. eqb c 42) word 0 cut.0 ∙ (λ i. sym (e ∙ cut.1) i ∷ split_at 42 (sym cut.2 i)))
    ∙ count_behind digits x.1.now ∙ (λ i. repeated (sym b i) (sym n i))
