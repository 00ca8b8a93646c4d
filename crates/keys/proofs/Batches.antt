-- A batch read entry by entry. Assumes nothing.
use Rattle.std.proofs.Common.{◌≡◌, ℕ, ◌<◌, Bool, true, false, List, [], ◌∷◌, length, get_or, suc, zero, zero-add, sym, refl, arith, MatchBool}
use Rattle.std.specs.List.{AllWithin, HoldsAt, range_with_len}
use Rattle.std.proofs.lemmas.List.FromFn.{length-range_with_len, get_or-range_with_len}
use Rattle.std.proofs.lemmas.Bool.Decides.{nat_tests}
use Rattle.keys.specs.Meaning.{KeyMeaning, Entry, no_entry, all_good}

-- the entry at a place is good, and is not
abbrev pub Good : KeyMeaning → List Entry → ℕ → Type 0
Good m es i = let e = get_or es i no_entry in m.good e.key e.payload e.signature ≡ true

abbrev pub Bad : KeyMeaning → List Entry → ℕ → Type 0
Bad m es i = i < length es → let e = get_or es i no_entry in m.good e.key e.payload e.signature ≡ false

good_all : (m : KeyMeaning) (es : List Entry) → ((i : ℕ) → i < length es → Good m es i) → all_good m es ≡ true
good_all m [] h = refl
good_all m (e ∷ es) h = grind (arith, nat_tests, h 0, good_all m es (λ i l. h (suc i) (omega arith)))

bad_one : (m : KeyMeaning) (es : List Entry) (i : ℕ) → i < length es → Bad m es i → all_good m es ≡ false
bad_one m [] i l h = absurd (omega arith)
bad_one m (e ∷ es) zero l h = grind (arith, nat_tests)
bad_one m (e ∷ es) (suc i) l h = grind (arith, nat_tests, bad_one m es i)

pub judged_all : (m : KeyMeaning) (es : List Entry) (r : Bool)
    → MatchBool r (AllWithin (Good m es) (range_with_len 0 (length es)) 0 (length (range_with_len 0 (length es)))) ((k : ℕ) × (k < length (range_with_len 0 (length es))) × HoldsAt (Bad m es) (range_with_len 0 (length es)) k)
    → r ≡ all_good m es
judged_all m es true h = sym (good_all m es (λ i l. simp (get_or-range_with_len, zero-add) at (h i 0 (omega arith) (omega (arith, length-range_with_len 0 (length es))))))
judged_all m es false h =
    let l : h.0 < length es = omega (arith, length-range_with_len 0 (length es)) in
    sym (bad_one m es h.0 l (simp (get_or-range_with_len, zero-add) at (h.2 0)))
