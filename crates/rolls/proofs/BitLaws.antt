-- The bits of a number, and how a set's methods read them. Assumes nothing.
use Rattle.std.proofs.Common.{◌≡◌, ℕ, zero, suc, max, ◌*◌, ◌/◌, ◌%◌, ◌^◌, ◌<◌, ◌≤◌, Bool, true, false, ◌||◌, eqb, ltb, List, [], ◌∷◌, ◌++◌, Some, None, Option, SomeIff, MatchOption, sym, refl, ap, ◌∙◌, ⊎_elim, arith}
use native.Mathlib.Nat.{div-eq_of_lt}
use lib.Bits.{bit_or}
use Rattle.std.proofs.Math.Bool.{or_assoc, or-false}
use Rattle.std.proofs.lemmas.Nat.{one_shl, or_lt, pow_below, pow_pos, le-div}
use Rattle.std.proofs.lemmas.Nat.Bits.{bit_at_above, bit_at-zero, bit_at_or, bit_at-pow_same, bit_at-pow_other}
use Rattle.std.proofs.lemmas.Bool.{true≢false, cases_eq, cases_lt, eq-eqb, ne_eqb, lt-ltb, le-ltb, ltb-true}
use Rattle.rolls.specs.Bitmap.{has, among}

-- no bit stands at or above n in a number below 2 ^ n
pub has_above : (n bits i : ℕ) → bits < 2 ^ n → n ≤ i → has bits i ≡ false
has_above n bits i h l = rw (bit_at_above bits n i h l) refl

pub has_zero : (i : ℕ) → has 0 i ≡ false
has_zero i = rw (bit_at-zero i) refl

-- a bit of either of two numbers is one of both together
pub has-or : (a b i : ℕ) → has (bit_or a b) i ≡ (has a i || has b i)
has-or a b i = ap (λ n. eqb n 1) (bit_at_or a b i) ∙ either (a / 2 ^ i % 2) (b / 2 ^ i % 2) (omega arith) (omega arith)
  where
    either : (x y : ℕ) → x < 2 → y < 2 → eqb (max x y) 1 ≡ (eqb x 1 || eqb y 1)
    either zero zero p q = refl
    either zero (suc zero) p q = refl
    either (suc zero) zero p q = refl
    either (suc zero) (suc zero) p q = refl
    either x (suc (suc y)) p q = absurd (omega arith)
    either (suc (suc x)) y p q = absurd (omega arith)

-- one bit alone
pub has_one : (x i : ℕ) → has (2 ^ x) i ≡ eqb x i
has_one x i =
    ⊎_elim
    (λ e. ap (has (2 ^ x)) (sym e) ∙ ap (λ n. eqb n 1) (bit_at-pow_same x) ∙ sym (eq-eqb x i e))
    (λ ne. ap (λ n. eqb n 1) (bit_at-pow_other x i (λ e. ne (sym e))) ∙ sym (ne_eqb x i ne))
    (cases_eq x i)

-- a bit set
pub has-set : (bits x i : ℕ) → has (bit_or bits (2 ^ x)) i ≡ (has bits i || eqb x i)
has-set bits x i = has-or bits (2 ^ x) i ∙ ap (λ b. has bits i || b) (has_one x i)

-- a bit set below n leaves a number below 2 ^ n
pub set_below : (n bits x : ℕ) → bits < 2 ^ n → x < n → bit_or bits (2 ^ x) < 2 ^ n
set_below n bits x h l = or_lt n bits (2 ^ x) h (pow_below x n l)

-- a bit set in 64 bits, as `bits | 1 << x` does
abbrev pub with_bit : ℕ → ℕ → ℕ
with_bit bits x = bit_or bits ((1 * 2 ^ x) % 18446744073709551616)

-- in 64 bits a bit set is the bit set
pub has-set_64 : (bits x i : ℕ) → x < 64 → has (with_bit bits x) i ≡ (has bits i || eqb x i)
has-set_64 bits x i l = rw (one_shl x 64 l) (has-set bits x i)

pub set_below_64 : (n bits x : ℕ) → n ≤ 64 → bits < 2 ^ n → x < n → with_bit bits x < 2 ^ n
set_below_64 n bits x few h l = rw (one_shl x 64 (omega arith)) (set_below n bits x h l)

-- among a list with one more at its end
pub among_push : (i : ℕ) (xs : List ℕ) (x : ℕ) → among i (xs ++ x ∷ []) ≡ (among i xs || eqb x i)
among_push i [] x = or-false (eqb x i)
among_push i (y ∷ ys) x = ap (λ b. eqb y i || b) (among_push i ys x) ∙ sym (or_assoc (eqb y i) (among i ys) (eqb x i))

-- a bit tested by a shift, at any place
pub tested : (n bits i : ℕ) (o : Option ℕ) (r : Bool) → n ≤ 64 → bits < 2 ^ n → SomeIff o (i < 64) (bits / 2 ^ i)
    → MatchOption o (r ≡ false) (λ x. r ≡ eqb (x % 2) 1) → r ≡ has bits i
tested n bits i None r few h s t = t ∙ sym (has_above n bits i h (omega (arith, cases_lt i 64)))
tested n bits i (Some x) r few h s t = t ∙ ap (λ z. eqb (z % 2) 1) s.1

-- the first bit at or above a place, where none stands at or above n
pub first_set : (n bits from : ℕ) (o : Option ℕ) → bits < 2 ^ n
    → MatchOption o ((k : ℕ) → from ≤ k → k < n → has bits k ≡ false) (λ i. (from ≤ i) × (i < n) × (has bits i ≡ true) × ((k : ℕ) → from ≤ k → k < i → has bits k ≡ false))
    → MatchOption o ((k : ℕ) → from ≤ k → has bits k ≡ false) (λ i. (from ≤ i) × (has bits i ≡ true) × ((k : ℕ) → from ≤ k → k < i → has bits k ≡ false))
first_set n bits from None h r = λ i l. ⊎_elim (λ p. r i l p) (λ p. has_above n bits i h p) (cases_lt i n)
first_set n bits from (Some i) h r = (r.0, r.2, r.3)

-- a shift that leaves nothing
pub shifted : (bits n : ℕ) → eqb (bits / 2 ^ n) 0 ≡ ltb bits (2 ^ n)
shifted bits n =
    ⊎_elim
    (λ l. eq-eqb (bits / 2 ^ n) 0 (div-eq_of_lt l) ∙ sym (lt-ltb bits (2 ^ n) l))
    (λ g. let q = le-div 1 bits (2 ^ n) (pow_pos n) (omega arith) in ne_eqb (bits / 2 ^ n) 0 (λ e. omega arith) ∙ sym (le-ltb bits (2 ^ n) g))
    (cases_lt bits (2 ^ n))

-- a bit at or above n
pub over : (n bits : ℕ) (o : Option ℕ) → SomeIff o (n < 64) (bits / 2 ^ n) → MatchOption o (◌≡◌ {A = Bool} true false) (λ x. true ≡ ltb 0 x) → 2 ^ n ≤ bits
over n bits None s h = absurd (true≢false h)
over n bits (Some x) s h =
    ⊎_elim (λ l. let q : bits / 2 ^ n ≡ 0 = div-eq_of_lt l in let p = ltb-true 0 x (sym h) in absurd (omega (arith, s.1))) (λ g. g) (cases_lt bits (2 ^ n))
