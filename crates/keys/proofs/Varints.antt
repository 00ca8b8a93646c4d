-- Shortest LEB128: its length, its steps, and that reading gives back what was written. Assumes nothing.
use Rattle.std.proofs.Common.{◌≡◌, ℕ, zero, suc, ◌+◌, ◌-◌, ◌*◌, ◌/◌, ◌%◌, ◌^◌, ◌<◌, ◌≤◌, List, [], ◌∷◌, ◌++◌, length, take, drop, set, refl, ap, ◌∙◌, ⊎_elim, pow-suc, max, arith}
use Rattle.std.proofs.lemmas.Slice.{drop-append-drop}
use Rattle.std.proofs.lemmas.Grind.{common_steps}
use Rattle.std.proofs.lemmas.Bool.Decides.{nat_tests}
use native.Mathlib.Nat.{pow-le-pow_right}
use Rattle.std.proofs.lemmas.Nat.{pow-add, pow_pos}
use Rattle.std.proofs.lemmas.List.{take_at, take_all, length-append, length-drop, append_assoc, set_split}
use Rattle.std.proofs.lemmas.Bool.{cases_lt}
use Rattle.keys.specs.Bytes.{overlaid}
use Rattle.keys.specs.Varint.{groups, varint}

pub groups-short : (k n : ℕ) → n < 128 → groups (suc k) n ≡ n ∷ []
groups-short k n h = grind (arith, nat_tests)

pub groups_long : (k n : ℕ) → 128 ≤ n → groups (suc k) n ≡ (128 + n % 128) ∷ groups k (n / 128)
groups_long k n h = grind (arith, nat_tests)

pub less : (k n : ℕ) → n < 128 ^ suc k → n / 128 < 128 ^ k
less k n h = omega (arith, pow-suc 128 k)

-- a group more makes no difference where there were enough
groups_more : (k n : ℕ) → n < 128 ^ suc k → groups (suc k) n ≡ groups (suc (suc k)) n
groups_more zero n h = grind (arith, nat_tests)
groups_more (suc k) n h = grind (arith, groups-short, groups_long, less, groups_more k (n / 128))

pub varint-short : (n : ℕ) → n < 128 → varint n ≡ n ∷ []
unfolding varint
varint-short n h = groups-short 4 n h

pub varint_long : (n : ℕ) → 128 ≤ n → n < 2 ^ 32 → varint n ≡ (128 + n % 128) ∷ varint (n / 128)
unfolding varint
varint_long n l h = grind (arith, groups_long, groups_more)

length-groups : (k n : ℕ) → (1 ≤ length (groups (suc k) n)) × (length (groups (suc k) n) ≤ suc k)
length-groups zero n = grind (arith, nat_tests)
length-groups (suc k) n = grind (arith, nat_tests, length-groups k (n / 128))

pub varint_some : (n : ℕ) → 1 ≤ length (varint n)
unfolding varint
varint_some n = (length-groups 4 n).0

pub varint-narrow : (n : ℕ) → length (varint n) ≤ 5
unfolding varint
varint-narrow n = (length-groups 4 n).1

pub length-varint-short : (n : ℕ) → n < 128 → length (varint n) ≡ 1
length-varint-short n h = grind (arith, varint-short)

pub length-varint_long : (n : ℕ) → 128 ≤ n → n < 2 ^ 32 → length (varint n) ≡ 1 + length (varint (n / 128))
length-varint_long n l h = grind (arith, varint_long)

-- a group for each seven bits up to the highest
bits-groups : (m k n : ℕ) → k < 7 * suc m → 2 ^ k ≤ n → n < 2 * 2 ^ k → k / 7 + 1 ≡ length (groups (suc m) n)
bits-groups zero k n f l h = grind (arith, groups-short, pow-le-pow_right {n = 2} (omega arith) {i = k} {j = 6} (omega arith))
bits-groups (suc m) k n f l h = ⊎_elim
    (λ (s : k < 7). grind (arith, groups-short, pow-le-pow_right {n = 2} (omega arith) {i = k} {j = 6} (omega arith)))
    (λ (b : 7 ≤ k).
    let e : 2 ^ k ≡ 128 * 2 ^ (k - 7) = ap (λ z. 2 ^ z) (omega arith) ∙ pow-add 2 7 (k - 7) in
    grind (arith, groups_long, pow_pos (k - 7), bits-groups m (k - 7) (n / 128)))
    (cases_lt k 7)

pub varint_bits : (n k : ℕ) → n < 2 ^ 32 → 2 ^ k ≤ max n 1 → max n 1 < 2 * 2 ^ k → k < 32 → k / 7 + 1 ≡ length (varint n)
unfolding varint
varint_bits zero zero f l h b = omega arith
varint_bits zero (suc k) f l h b = omega (arith, pow_pos k, pow-suc 2 k)
varint_bits (suc n) k f l h b = bits-groups 4 k (suc n) (omega arith) (omega arith) (omega arith)

pub varint_one : (n : ℕ) → n < 2 ^ 32 → length (varint n) ≡ 1 → n < 128
varint_one n h e = grind (arith, length-varint_long, varint_some)

-- the bytes before the place and the number left make the number, and the last byte stands behind these
pub record Writing (value rest place : ℕ) (front : List ℕ) : Type 0 where
  pub below : rest ≤ value
  pub room : length front + 1 ≡ length (varint value)
  pub left : place + length (varint rest) ≡ length (varint value)
  pub whole : take place front ++ varint rest ≡ varint value

pub writing_begins : (value n : ℕ) (before : List ℕ) → n ≡ length (varint value) → n ≤ length before → Writing value value 0 (take (n - 1) before)
writing_begins value n before e l = record { below = omega arith; room = grind (arith, common_steps, varint_some); left = omega arith; whole = refl }

pub writing_more : (value rest place : ℕ) (front : List ℕ) → value < 2 ^ 32 → place < length front → Writing value rest place front
    → Writing value (rest / 128) (place + 1) (set front place (128 + rest % 128))
writing_more value rest place front h p w = ⊎_elim
    (λ s. absurd (omega (arith, length-varint-short rest s)))
    (λ g. record { below = omega arith; room = grind (arith, common_steps); left = grind (arith, length-varint_long); whole = grind (arith, common_steps, varint_long) })
    (cases_lt rest 128)

pub last_fits : (value rest place : ℕ) (front : List ℕ) → value < 2 ^ 32 → length front ≤ place → Writing value rest place front → rest < 128
last_fits value rest place front h p w = varint_one rest (omega arith) (omega (arith, varint_some rest))

pub writing_last : (value rest place n : ℕ) (front before : List ℕ) → value < 2 ^ 32 → n ≡ length (varint value) → n ≤ length before → length front ≤ place
    → Writing value rest place front → set (front ++ drop (n - 1) before) (n - 1) rest ≡ overlaid before 0 (varint value)
writing_last value rest place n front before h e l p w =
    let v = varint-short rest (last_fits value rest place front h p w) in
    let k : length front ≡ n - 1 = omega arith in
    let s = set_split (front ++ drop (n - 1) before) (n - 1) rest (omega (arith, length-append front (drop (n - 1) before), length-drop (n - 1) before)) in
    let t = take_at front (drop (n - 1) before) (n - 1) k in
    let d = drop-append-drop (n - 1) before front (suc (n - 1)) (omega arith) k in
    let f = take_all place front p in
    let q : suc (n - 1) ≡ 0 + length (varint value) = omega arith in
    let m : drop (suc (n - 1)) before ≡ drop (0 + length (varint value)) before = ap (λ z. drop z before) q in
    let a = append_assoc front (rest ∷ []) (drop (0 + length (varint value)) before) in
    let g = w.whole in
    cc
