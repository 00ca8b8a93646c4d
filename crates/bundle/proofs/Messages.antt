-- Whether a message is longer than its limit. Assumes nothing.
use Rattle.std.proofs.Common.{◌≡◌, ℕ, zero, suc, ◌<◌, ◌≤◌, Bool, true, false, not, ◌||◌, ltb, Err, List, [], ◌∷◌, length, get_or, MatchBool, sym, refl, ap, subst, ◌∙◌, zero-add, arith}
use Rattle.std.specs.List.{AllWithin, HoldsAt, range_with_len}
use Rattle.std.proofs.lemmas.List.FromFn.{length-range_with_len, get_or-range_with_len}
use Rattle.std.proofs.lemmas.Bool.{lt-ltb, le-ltb, ltb-false, or_parts, or_from, or_right}
use Rattle.refusals.specs.Limits.{max_message}
use Rattle.schemes.specs.Judging.{Seen}
use Rattle.refusals.specs.declared.fault.FaultKind.TheVariants.{EndOfBuffer}
use Rattle.bundle.specs.Layout.{fault}
use Rattle.bundle.specs.Verdicts.{some_long}

abbrev pub Fits : List Seen → ℕ → Type 0
Fits es i = (d : Seen) → i < length es → length (get_or es i d).message ≤ max_message

abbrev pub Long : List Seen → ℕ → Type 0
Long es i = (d : Seen) → (i < length es) × (max_message < length (get_or es i d).message)

pub long_found : (es : List Seen) (i : ℕ) (d : Seen) → i < length es → max_message < length (get_or es i d).message → some_long es ≡ true
long_found [] i d h k = absurd (omega arith)
long_found (e ∷ es) zero d h k = ap (λ b. b || some_long es) (lt-ltb max_message (length e.message) k)
long_found (e ∷ es) (suc i) d h k = or_right (ltb max_message (length e.message)) (some_long es) (long_found es i d (omega arith) k)

none_long : (es : List Seen) → ((i : ℕ) → Fits es i) → some_long es ≡ false
none_long [] h = refl
none_long (e ∷ es) h =
    or_from (ltb max_message (length e.message)) (some_long es) (le-ltb max_message (length e.message) (h 0 e (omega arith))) (none_long es (λ i d k. h (suc i) d (omega arith)))

pub short_at : (es : List Seen) (i : ℕ) (d : Seen) → i < length es → some_long es ≡ false → length (get_or es i d).message ≤ max_message
short_at [] i d h q = absurd (omega arith)
short_at (e ∷ es) zero d h q = ltb-false max_message (length e.message) (or_parts (ltb max_message (length e.message)) (some_long es) q).0
short_at (e ∷ es) (suc i) d h q = short_at es i d (omega arith) (or_parts (ltb max_message (length e.message)) (some_long es) q).1

-- where no message is long, the one at a place is short
pub short_there : (es : List Seen) (i : ℕ) (e : Seen) → i < length es → ((d : Seen) → get_or es i d ≡ e) → some_long es ≡ false → length e.message ≤ max_message
short_there es i e h at q = subst (λ (z : Seen). length z.message ≤ max_message) (at e) (short_at es i e h q)

-- what a look at each place tells
pub all_fit : (es : List Seen) (r : Bool) → (let all = range_with_len 0 (length es) in MatchBool r (AllWithin (Fits es) all 0 (length all)) ((k : ℕ) × (k < length all) × HoldsAt (Long es) all k))
    → r ≡ not (some_long es)
all_fit es true h =
    let all = range_with_len 0 (length es) in
    let l = length-range_with_len 0 (length es) in
    let place : (i : ℕ) → i < length es → get_or all i 0 ≡ i = λ i k. get_or-range_with_len 0 (length es) i 0 k ∙ zero-add i in
    ap not (sym (none_long es (λ i d k. subst (λ z. Fits es z) (place i k) (h i 0 (omega arith) (omega arith)) d k)))
all_fit es false h =
    let m = h.2 0 nothing in
    ap not (sym (long_found es _ nothing m.0 m.1))
  where
    nothing : Seen
    nothing = record { message = []; certificate = Err (fault EndOfBuffer 0) }
