use Rattle.std.proofs.Common.{◌≡◌, ℕ, List, [], ◌∷◌, ◌++◌, length, Some, None, Option, sym, refl, ap, ◌∙◌, append_assoc, arith, length-append}
use Rattle.table.specs.Hex.{hex_byte, hex_bytes, before}
use Rattle.table.specs.Words.{word_bytes, beside, all_bytes, Unfit}

-- no bytes in front of others
pub beside_none : (o : Option (List ℕ)) → beside (Some []) o ≡ o
beside_none None = refl
beside_none (Some ys) = refl

pub beside-beside : (a b o : Option (List ℕ)) → beside a (beside b o) ≡ beside (beside a b) o
beside-beside None b o = refl
beside-beside (Some xs) None o = refl
beside-beside (Some xs) (Some ys) None = refl
beside-beside (Some xs) (Some ys) (Some zs) = ap Some (sym (append_assoc xs ys zs))

-- more bytes do not mend what is unfit
unfit_more : (a o : Option (List ℕ)) (n : ℕ) → Unfit a n → Unfit (beside a o) n
unfit_more None o n h = tt
unfit_more (Some xs) None n h = tt
unfit_more (Some xs) (Some ys) n h = simp length-append (omega arith)

before-beside : (b : ℕ) (o : Option (List ℕ)) → before (Some b) o ≡ beside (Some (b ∷ [])) o
before-beside b None = refl
before-beside b (Some ys) = refl

-- a chunk that is a byte is the first byte
pub first_byte : (chunk rest : List ℕ) (b : ℕ) → hex_byte chunk ≡ Some b → hex_bytes (chunk ++ rest) ≡ beside (Some (b ∷ [])) (hex_bytes rest)
first_byte [] rest b e = cc
first_byte (high ∷ []) rest b e = cc
first_byte (high ∷ low ∷ []) rest b e = ap (λ o. before o (hex_bytes rest)) e ∙ before-beside b (hex_bytes rest)
first_byte (high ∷ low ∷ more ∷ others) rest b e = cc

-- one more byte
pub one_more : (left chunk rest bytes more : List ℕ) (b : ℕ) (all : Option (List ℕ)) → left ≡ chunk ++ rest → Some b ≡ hex_byte chunk
    → more ≡ bytes ++ b ∷ [] → beside (Some bytes) (hex_bytes left) ≡ all → beside (Some more) (hex_bytes rest) ≡ all
one_more left chunk rest bytes more b all cut e put h =
    ap (λ xs. beside (Some xs) (hex_bytes rest)) put ∙ sym (beside-beside (Some bytes) (Some (b ∷ [])) (hex_bytes rest))
    ∙ ap (beside (Some bytes)) (sym (first_byte chunk rest b (sym e)) ∙ ap hex_bytes (sym cut)) ∙ h

-- a byte that finds no room
pub no_room : (left chunk rest bytes : List ℕ) (b room : ℕ) (all : Option (List ℕ)) → left ≡ chunk ++ rest → Some b ≡ hex_byte chunk
    → length bytes ≡ room → beside (Some bytes) (hex_bytes left) ≡ all → Unfit all room
no_room left chunk rest bytes b room all cut e full h =
    let more = one_more left chunk rest bytes (bytes ++ b ∷ []) b all cut e refl h in
    rw (← more) (unfit_more (Some (bytes ++ b ∷ [])) (hex_bytes rest) room (simp length-append (omega arith)))

-- one more word
pub more_bytes : (left words : List (List ℕ)) (word bytes more : List ℕ) (all : Option (List ℕ)) → left ≡ word ∷ words
    → beside (Some bytes) (word_bytes word) ≡ Some more → beside (Some bytes) (all_bytes left) ≡ all → beside (Some more) (all_bytes words) ≡ all
more_bytes left words word bytes more all next put h =
    ap (λ o. beside o (all_bytes words)) (sym put) ∙ sym (beside-beside (Some bytes) (word_bytes word) (all_bytes words))
    ∙ ap (λ ws. beside (Some bytes) (all_bytes ws)) (sym next) ∙ h

-- a word that does not fit
pub too_many : (left words : List (List ℕ)) (word bytes : List ℕ) (room : ℕ) (all : Option (List ℕ)) → left ≡ word ∷ words
    → Unfit (beside (Some bytes) (word_bytes word)) room → beside (Some bytes) (all_bytes left) ≡ all → Unfit all room
too_many left words word bytes room all next unfit h =
    rw (← h, next, beside-beside (Some bytes) (word_bytes word) (all_bytes words)) (unfit_more (beside (Some bytes) (word_bytes word)) (all_bytes words) room unfit)
