use Rattle.std.proofs.Common.{◌≡◌, ℕ, ◌+◌, ◌-◌, ◌<◌, ◌≤◌, min, List, [], ◌∷◌, ◌++◌, length, take, drop, set, replicate, Some, None, Option, MatchOption, sym, refl, ap, ◌∙◌, append-nil, arith, length-append}
use lib.Seq.{take-append-add, drop-append-add}
use Rattle.std.proofs.lemmas.List.{take_at, drop_at, drop_all, drop-drop, drop-set-lt, take_more_set, take-append-le, take_rest, length-take-le, length-drop, length-replicate}
use Rattle.std.specs.Option.{option_map}
use Rattle.table.specs.Hex.{hex_byte, hex_bytes, before}
use Rattle.table.specs.Words.{word_bytes, beside, all_bytes, Unfit, Put, PutBehind}
use Rattle.table.proofs.Laws.{beside_none, beside-beside, first_byte}

-- what was put is within the room
pub put_within : (bytes : Option (List ℕ)) (room : List ℕ) (r : Option ℕ) → Put bytes room r → MatchOption r (Unit {0}) (λ n. n ≤ length room)
put_within bytes room None h = tt
put_within bytes room (Some n) h = h.0

-- nothing is put where there are no bytes
pub put_nothing : (bytes : Option (List ℕ)) (room : List ℕ) (r : Option ℕ) → bytes ≡ None → r ≡ None → Put bytes room r
put_nothing bytes room r none refused = rw (none, refused) tt

-- what was put behind nothing stands in front of the room
pub put_first : (bytes : Option (List ℕ)) (room : List ℕ) (n : ℕ) (r : Option (Unit {0})) → n ≤ length room
    → PutBehind (length room) bytes [] (take n room) r → Put bytes room (option_map (λ _. n) r)
put_first bytes room n None h put = rw (← beside_none bytes) put
put_first bytes room n (Some u) h put = (h, sym (beside_none bytes) ∙ put)

-- a part in front that was filled
pub filled : (n b : ℕ) (part room : List ℕ) → n ≤ length room → part ≡ replicate (length (take n room)) b
    → (n ≤ length (part ++ drop n room)) × (Some (replicate n b) ≡ Some (take n (part ++ drop n room))) × (drop n (part ++ drop n room) ≡ drop n room)
filled n b part room h e =
    let long : length (take n room) ≡ n = length-take-le n room h in
    let all : part ≡ replicate n b = e ∙ ap (λ k. replicate k b) long in
    let size : length part ≡ n = ap length all ∙ length-replicate n b in
    let front = take_at part (drop n room) n size in
    (simp length-append (omega arith), (cc), drop_at part (drop n room) n size)

-- what lies behind one more place
pub behind_one : (old room : List ℕ) (len b : ℕ) → drop len room ≡ drop len old → drop (len + 1) (set room len b) ≡ drop (len + 1) old
behind_one old room len b same =
    drop-set-lt (len + 1) room len b (omega arith) ∙ sym (drop-drop 1 len room) ∙ ap (drop 1) same ∙ drop-drop 1 len old

-- one more byte
pub put_more : (digits left chunk rest room : List ℕ) (len b : ℕ) → left ≡ chunk ++ rest → hex_byte chunk ≡ Some b
    → len < length room → beside (Some (take len room)) (hex_bytes left) ≡ hex_bytes digits
    → beside (Some (take (len + 1) (set room len b))) (hex_bytes rest) ≡ hex_bytes digits
put_more digits left chunk rest room len b cut e h inv =
    let first = first_byte chunk rest b e in
    let moved = beside-beside (Some (take len room)) (Some (b ∷ [])) (hex_bytes rest) in
    let more = take_more_set room len b h in
    cc

long : (n : ℕ) (xs : List ℕ) (o : Option ℕ) (p : Option (List ℕ)) → length xs ≡ n → Unfit (beside (Some xs) (before o p)) n
long n xs None p e = tt
long n xs (Some b) None e = tt
long n xs (Some b) (Some ys) e = simp length-append (omega arith)

-- digits are left, and the room is full
pub full : (digits left room : List ℕ) (len : ℕ) → 0 < length left → len ≡ length room
    → beside (Some (take len room)) (hex_bytes left) ≡ hex_bytes digits → Unfit (hex_bytes digits) (length room)
full digits [] room len some all inv = absurd (omega arith)
full digits (high ∷ []) room len some all inv = rw (← inv) tt
full digits (high ∷ low ∷ rest) room len some all inv =
    let whole : length (take len room) ≡ length room = length-take-le len room (omega arith) ∙ all in
    rw (← inv) (long (length room) (take len room) (hex_byte (high ∷ low ∷ [])) (hex_bytes rest) whole)

-- a chunk that is no byte
bad_byte : (chunk rest : List ℕ) → length chunk ≡ min 2 (length (chunk ++ rest)) → 0 < length (chunk ++ rest)
    → hex_byte chunk ≡ None → hex_bytes (chunk ++ rest) ≡ None
bad_byte [] [] size some e = absurd (omega arith)
bad_byte [] (x ∷ xs) size some e = absurd (omega arith)
bad_byte (high ∷ []) [] size some e = refl
bad_byte (high ∷ []) (x ∷ xs) size some e = absurd (omega arith)
bad_byte (high ∷ low ∷ []) rest size some e = ap (λ o. before o (hex_bytes rest)) e
bad_byte (high ∷ low ∷ more ∷ others) rest size some e = absurd (omega arith)

pub put_none : (digits left chunk rest room xs : List ℕ) (r : Option ℕ) → r ≡ None → left ≡ chunk ++ rest
    → length chunk ≡ min 2 (length left) → 0 < length left → hex_byte chunk ≡ None
    → beside (Some xs) (hex_bytes left) ≡ hex_bytes digits → Put (hex_bytes digits) room r
put_none digits left chunk rest room xs r refused cut size some e inv =
    let joined = ap length cut in
    let bad = bad_byte chunk rest (cc) (omega arith) e in
    let none : hex_bytes digits ≡ None = sym inv ∙ ap (beside (Some xs)) (ap hex_bytes cut ∙ bad) in
    rw (refused, none) tt

-- a word's bytes go behind those that stand already
pub put_further : (word : List ℕ) (left words : List (List ℕ)) (room part tail : List ℕ) (len n : ℕ) (bytes : Option (List ℕ))
    → left ≡ word ∷ words → beside (Some (take len room)) (all_bytes left) ≡ bytes
    → len ≤ length room → Put (word_bytes word) part (Some n)
    → beside (Some (take (len + n) (take len room ++ (part ++ tail)))) (all_bytes words) ≡ bytes
put_further word left words room part tail len n bytes next inv h put =
    let long = length-take-le len room h in
    let past : take (len + n) (take len room ++ (part ++ tail)) ≡ take len room ++ take n (part ++ tail) =
    ap (λ k. take (k + n) (take len room ++ (part ++ tail))) (sym long) ∙ take-append-add (take len room) (part ++ tail) n in
    let front = take-append-le n part tail put.0 in
    let stands = put.1 in
    let moved = beside-beside (Some (take len room)) (Some (take n part)) (all_bytes words) in
    cc

-- and what lies behind them is as it was
pub behind_word : (old room part : List ℕ) (len n : ℕ) → len ≤ length room → n ≤ length part → drop len room ≡ drop len old
    → drop n part ≡ drop n (take (length room - len) (drop len room))
    → drop (len + n) (take len room ++ (part ++ drop (length room - len) (drop len room))) ≡ drop (len + n) old
behind_word old room part len n h k same kept =
    let long = length-take-le len room h in
    let size = length-drop len room in
    let none : drop (length room - len) (drop len room) ≡ [] = drop_all (length room - len) (drop len room) (omega arith) in
    ap (λ t. drop (len + n) (take len room ++ (part ++ t))) none
    ∙ ap (λ t. drop (len + n) (take len room ++ t)) (append-nil part)
    ∙ ap (λ m. drop (m + n) (take len room ++ part)) (sym long)
    ∙ drop-append-add (take len room) part n
    ∙ kept ∙ ap (drop n) (take_rest room len ∙ same) ∙ drop-drop n len old

-- bytes that do not fit what is left do not fit behind others
unfit_beside : (front : List ℕ) (o rest : Option (List ℕ)) (n m : ℕ) → Unfit o n → m ≤ length front + n → Unfit (beside (Some front) (beside o rest)) m
unfit_beside front None rest n m h e = tt
unfit_beside front (Some xs) None n m h e = tt
unfit_beside front (Some xs) (Some ys) n m h e = simp length-append (omega arith)

-- a word that does not fit what is left
pub put_not : (word : List ℕ) (left words : List (List ℕ)) (front part room : List ℕ) (bytes : Option (List ℕ)) (r : Option ℕ)
    → left ≡ word ∷ words → beside (Some front) (all_bytes left) ≡ bytes
    → length room ≤ length front + length part → Unfit (word_bytes word) (length part) → r ≡ None → Put bytes room r
put_not word left words front part room bytes r next inv small h refused =
    rw (refused, ← inv, next) (unfit_beside front (word_bytes word) (all_bytes words) (length part) (length room) h small)

-- all words are put
pub put_all : (left : List (List ℕ)) (front : List ℕ) (bytes : Option (List ℕ)) → left ≡ []
    → beside (Some front) (all_bytes left) ≡ bytes → bytes ≡ Some front
put_all left front bytes none inv = sym inv ∙ ap (λ ws. beside (Some front) (all_bytes ws)) none ∙ ap Some (append-nil front)
