-- What words write, and what becomes of the room for it. Assumes nothing.
use Rattle.std.specs.Prelude.{◌≡◌, ℕ, ◌<◌, ◌≤◌, cond, ◌&&◌, List, [], ◌∷◌, ◌++◌, length, take, replicate, Some, None, Option, MatchOption, ◌==◌, nat_le}
use Rattle.std.specs.List.{slice_split}
use Rattle.std.specs.Str.{all_ascii_digits}
use Rattle.std.specs.Str.Parse.{IsNumeral, digits_value}
use Rattle.table.specs.Hex.{hex_byte, hex_bytes}

abbrev pub max_bytes : ℕ
max_bytes = 70000

-- the parts of a text between the bytes that equal `mark`
abbrev pub split_at : ℕ → List ℕ → List (List ℕ)
split_at mark text = slice_split (λ c. c == mark) text

-- a decimal number up to the limit
abbrev pub Counted : List ℕ → Option ℕ → Type 0
Counted text None = IsNumeral 10 text → max_bytes < digits_value 10 text
Counted text (Some n) = IsNumeral 10 text × (n ≡ digits_value 10 text) × (n ≤ max_bytes)

-- the same as one value
abbrev pub count_of : List ℕ → Option ℕ
count_of [] = None
count_of (c ∷ cs) = cond (all_ascii_digits (c ∷ cs) && nat_le (digits_value 10 (c ∷ cs)) max_bytes) (Some (digits_value 10 (c ∷ cs))) None

abbrev pub repeated : Option ℕ → Option ℕ → Option (List ℕ)
repeated None count = None
repeated (Some byte) None = None
repeated (Some byte) (Some count) = Some (replicate count byte)

-- at least one byte
abbrev pub some_hex : List ℕ → Option (List ℕ)
some_hex [] = None
some_hex (c ∷ cs) = hex_bytes (c ∷ cs)

-- hex digits, or a byte in hex, a star and how often the byte stands
abbrev pub of_parts : List (List ℕ) → Option (List ℕ)
of_parts [] = None
of_parts (digits ∷ []) = some_hex digits
of_parts (digits ∷ count ∷ []) = repeated (hex_byte digits) (count_of count)
of_parts (digits ∷ count ∷ more ∷ rest) = None

abbrev pub word_bytes : List ℕ → Option (List ℕ)
word_bytes word = of_parts (split_at 42 word)

abbrev pub beside : Option (List ℕ) → Option (List ℕ) → Option (List ℕ)
beside None rest = None
beside (Some bytes) None = None
beside (Some bytes) (Some rest) = Some (bytes ++ rest)

abbrev pub all_bytes : List (List ℕ) → Option (List ℕ)
all_bytes [] = Some []
all_bytes (word ∷ words) = beside (word_bytes word) (all_bytes words)

-- the bytes of all words, joined; a space stands between two words
abbrev pub text_bytes : List ℕ → Option (List ℕ)
text_bytes text = all_bytes (split_at 32 text)

-- there are no bytes, or more than there is room for
abbrev pub Unfit : Option (List ℕ) → ℕ → Type 0
Unfit None room = Unit {0}
Unfit (Some bytes) room = room < length bytes

-- the bytes stand in front of a room, and their number is answered
abbrev pub Put : Option (List ℕ) → List ℕ → Option ℕ → Type 0
Put bytes room None = Unfit bytes (length room)
Put bytes room (Some n) = (n ≤ length room) × (bytes ≡ Some (take n room))

-- the bytes stand behind those that stood before, or together they are unfit
abbrev pub PutBehind : ℕ → Option (List ℕ) → List ℕ → List ℕ → Option (Unit {0}) → Type 0
PutBehind room bytes before after result =
    MatchOption result (Unfit (beside (Some before) bytes) room) (λ _. beside (Some before) bytes ≡ Some after)
