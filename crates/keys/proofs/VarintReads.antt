-- Reading the shortest LEB128. Assumes nothing.
use Rattle.std.proofs.Common.{◌≡◌, ℕ, zero, suc, ◌+◌, ◌*◌, ◌/◌, ◌%◌, ◌^◌, ◌<◌, ◌≤◌, true, false, not, ◌&&◌, ltb, ◌⊎◌, List, [], ◌∷◌, ◌++◌, length, get_or, take, drop, IfOk, Ok, Err, Result, sym, refl, ap, ◌∙◌, subst, ⊎_elim, mul_assoc, pow-suc, arith, MatchResult}
use Rattle.std.proofs.lemmas.Grind.{common_steps}
use Rattle.std.proofs.lemmas.Bool.Decides.{nat_tests}
use native.Mathlib.Nat.{pow-le-pow_right}
use Rattle.std.specs.List.{AllByRecursion as All}
use Rattle.std.proofs.lemmas.Slice.Eq.{bytes_eq-Decides}
use Rattle.std.proofs.lemmas.List.{length-append, length_push, length-take-le, take_more, take_all}
use Rattle.std.proofs.lemmas.Nat.{mul-le}
use Rattle.std.proofs.ByRecursion.{All-more}
use Rattle.std.proofs.lemmas.Bool.{cases_lt, le-ltb, and_left}
use Rattle.keys.specs.Varint.{groups, varint, grouped, field, closed, judged, read_varint}
use Rattle.keys.specs.declared.varint.Varint.{Varint}
use Rattle.keys.specs.declared.varint.VarintFault.{VarintFault}
use Rattle.keys.specs.declared.varint.VarintFault.TheVariants.{EndOfBuffer, Invalid}
use Rattle.keys.proofs.Varints.{varint-short, varint_long, varint_some, groups-short, groups_long, less}

-- bytes with more to come
abbrev pub Open : List ℕ → Type 0
Open bs = All (λ b. (128 ≤ b) × (b < 256)) bs

closed_open : (fs : List ℕ) → Open fs → closed fs ≡ false
closed_open [] o = refl
closed_open (f ∷ fs) o = grind (arith, nat_tests, closed_open fs o.1, o.0.0)

closed_at : (fs rest : List ℕ) (b : ℕ) → b < 128 → closed (fs ++ b ∷ rest) ≡ true
closed_at [] rest b h = grind (arith, nat_tests)
closed_at (f ∷ fs) rest b h = grind (arith, nat_tests, closed_at fs rest b h)

field_at : (k : ℕ) (fs rest : List ℕ) (b : ℕ) → Open fs → length fs < k → b < 128 → field k (fs ++ b ∷ rest) ≡ fs ++ b ∷ []
field_at zero fs rest b o h s = absurd (omega arith)
field_at (suc k) [] rest b o h s = grind (arith, nat_tests)
field_at (suc k) (f ∷ fs) rest b o h s = grind (arith, nat_tests, field_at k fs rest b o.1, o.0.0)

field_open : (fs rest : List ℕ) → Open fs → field (length fs) (fs ++ rest) ≡ fs
field_open [] rest o = refl
field_open (f ∷ fs) rest o = grind (arith, nat_tests, field_open fs rest o.1, o.0.0)

judged-good : (f : List ℕ) → grouped f < 2 ^ 32 → varint (grouped f) ≡ f → judged f ≡ Ok (record { value = grouped f; size = length f })
judged-good f h e = grind (arith, nat_tests, bytes_eq-Decides)

judged_big : (f : List ℕ) → 2 ^ 32 ≤ grouped f → judged f ≡ Err Invalid
judged_big f h = grind (arith, nat_tests)

judged_other : (f : List ℕ) → (varint (grouped f) ≡ f → ⊥) → judged f ≡ Err Invalid
judged_other f n = grind (arith, nat_tests, bytes_eq-Decides)

-- the first bytes, and their number
grouped-some : (fs : List ℕ) (b : ℕ) → 1 ≤ b → b < 128 → 1 ≤ grouped (fs ++ b ∷ [])
grouped-some [] b l h = omega arith
grouped-some (f ∷ fs) b l h = omega (arith, grouped-some fs b l h)

shortest_one : (b : ℕ) → b < 128 → varint (grouped (b ∷ [])) ≡ b ∷ []
shortest_one b h = grind (arith, varint-short)

shortest_more : (fs : List ℕ) (b : ℕ) → Open fs → 1 ≤ b → b < 128 → grouped (fs ++ b ∷ []) < 2 ^ 32 → varint (grouped (fs ++ b ∷ [])) ≡ fs ++ b ∷ []
shortest_more [] b o l h s = shortest_one b h
shortest_more (f ∷ fs) b o l h s = grind (arith, common_steps, varint_long, grouped-some fs b l h, shortest_more fs b o.1 l h, o.0.0, o.0.1)

shortest_at : (fs : List ℕ) (b : ℕ) → Open fs → b < 128 → (1 < length fs + 1 → 1 ≤ b) → grouped (fs ++ b ∷ []) < 2 ^ 32 → varint (grouped (fs ++ b ∷ [])) ≡ fs ++ b ∷ []
shortest_at [] b o h l s = shortest_one b h
shortest_at (f ∷ fs) b o h l s = shortest_more (f ∷ fs) b o (l (omega arith)) h s

-- no shortest form of two bytes or more ends in 0
never_zero : (fs : List ℕ) (b n : ℕ) → b ≡ 0 → n ≡ grouped (fs ++ b ∷ []) → 1 ≤ n + length fs → n < 2 ^ 32 → varint n ≡ fs ++ b ∷ [] → ⊥
never_zero [] b n z g l h e = omega arith
never_zero (f ∷ fs) b n z g l h e = grind (arith, common_steps, varint-short, varint_long, never_zero fs b (n / 128) z)

never_open : (fs : List ℕ) (n : ℕ) → Open fs → n < 2 ^ 32 → varint n ≡ fs → ⊥
never_open [] n o h e = omega (arith, varint_some n, ap length e)
never_open (f ∷ fs) n o h e = grind (arith, common_steps, varint-short, varint_long, never_open fs (n / 128) o.1)

-- what reading gives, by what stands at the front
read_short : (bs : List ℕ) → Open bs → length bs < 5 → read_varint bs ≡ Err EndOfBuffer
unfolding read_varint
read_short bs o h = grind (arith, nat_tests, closed_open)

read_field : (bs f : List ℕ) → (ltb (length bs) 5 && not (closed bs)) ≡ false → field 5 bs ≡ f → read_varint bs ≡ judged f
unfolding read_varint
read_field bs f t e = grind (arith, nat_tests)

read_closed : (fs rest : List ℕ) (b : ℕ) → Open fs → length fs < 5 → b < 128 → read_varint (fs ++ b ∷ rest) ≡ judged (fs ++ b ∷ [])
read_closed fs rest b o h s =
    let c = closed_at fs rest b s in
    read_field (fs ++ b ∷ rest) (fs ++ b ∷ []) (grind (arith, nat_tests)) (field_at 5 fs rest b o h s)

read_open : (fs rest : List ℕ) → Open fs → length fs ≡ 5 → read_varint (fs ++ rest) ≡ Err Invalid
read_open fs rest o h = read_field (fs ++ rest) fs
    (and_left (ltb (length (fs ++ rest)) 5) (not (closed (fs ++ rest))) (le-ltb (length (fs ++ rest)) 5 (omega (arith, length-append fs rest))))
    (subst (λ k. field k (fs ++ rest) ≡ fs) h (field_open fs rest o))
    ∙ ⊎_elim (λ s. judged_other fs (λ e. never_open fs (grouped fs) o s e)) (judged_big fs) (cases_lt (grouped fs) (2 ^ 32))

-- what a last byte makes of the bytes before it
pub closes : (fs rest : List ℕ) (b value size : ℕ) (r : Result Varint VarintFault) → Open fs → length fs < 5 → b < 128
    → value ≡ grouped (fs ++ b ∷ []) → size ≡ length fs + 1
    → MatchResult r (λ v. (v ≡ record { value = value; size = size }) × (value < 2 ^ 32) × (1 < size → 1 ≤ b)) (λ e. (e ≡ Invalid) × ((2 ^ 32 ≤ value) ⊎ ((1 < size) × (b ≡ 0))))
    → r ≡ read_varint (fs ++ b ∷ rest)
closes fs rest b value size (Ok v) o h s g l c = grind (arith, judged-good, shortest_at, read_closed, length_push)
closes fs rest b value size (Err e) o h s g l c = grind (arith, judged_big, judged_other, never_zero, read_closed)

-- what was written is read
field-groups : (k n : ℕ) (rest : List ℕ) → n < 128 ^ suc k → field (suc k) (groups (suc k) n ++ rest) ≡ groups (suc k) n
field-groups zero n rest h = grind (arith, nat_tests)
field-groups (suc k) n rest h = grind (arith, nat_tests, groups-short, groups_long, less, field-groups k (n / 128) rest)

grouped-groups : (k n : ℕ) → n < 128 ^ suc k → grouped (groups (suc k) n) ≡ n
grouped-groups zero n h = grind (arith, nat_tests)
grouped-groups (suc k) n h = grind (arith, nat_tests, groups-short, groups_long, less, grouped-groups k (n / 128))

closed-groups : (k n : ℕ) (rest : List ℕ) → n < 128 ^ suc k → closed (groups (suc k) n ++ rest) ≡ true
closed-groups zero n rest h = grind (arith, nat_tests)
closed-groups (suc k) n rest h = grind (arith, nat_tests, groups-short, groups_long, less, closed-groups k (n / 128) rest)

pub grouped-varint : (v : ℕ) → v < 2 ^ 32 → grouped (varint v) ≡ v
unfolding varint
grouped-varint v h = grouped-groups 4 v (omega arith)

read_front : (v : ℕ) (rest : List ℕ) → v < 2 ^ 32 → read_varint (varint v ++ rest) ≡ judged (varint v)
unfolding varint
read_front v rest h = grind (arith, nat_tests, read_field, closed-groups, field-groups)

pub reads_back : (v : ℕ) (rest : List ℕ) → v < 2 ^ 32 → read_varint (varint v ++ rest) ≡ Ok (record { value = v; size = length (varint v) })
reads_back v rest h = grind (arith, read_front, judged-good, grouped-varint)

-- what is read is the shortest form
take-field : (k : ℕ) (bs : List ℕ) → take (length (field k bs)) bs ≡ field k bs
take-field zero bs = refl
take-field (suc k) [] = refl
take-field (suc k) (b ∷ bs) = grind (arith, nat_tests, take-field k bs)

length-field : (k : ℕ) (bs : List ℕ) → length (field k bs) ≤ length bs
length-field zero bs = omega arith
length-field (suc k) [] = omega arith
length-field (suc k) (b ∷ bs) = grind (arith, nat_tests, length-field k bs)

abbrev pub Shortest : List ℕ → Result Varint VarintFault → Type 0
Shortest bs r = IfOk r (λ v. (take v.size bs ≡ varint v.value) × (v.size ≤ length bs) × (v.value < 2 ^ 32))

judged_shortest : (bs f : List ℕ) → take (length f) bs ≡ f → length f ≤ length bs → Shortest bs (judged f)
judged_shortest bs f t l = grind (arith, nat_tests, bytes_eq-Decides)

pub reads_shortest : (bs : List ℕ) → Shortest bs (read_varint bs)
unfolding read_varint
reads_shortest bs = grind (arith, nat_tests, judged_shortest, take-field, length-field)

-- a loop over the bytes
grouped_push : (fs : List ℕ) (b : ℕ) → grouped (fs ++ b ∷ []) ≡ grouped fs + b % 128 * 128 ^ length fs
grouped_push [] b = omega arith
grouped_push (f ∷ fs) b = omega (arith, grouped_push fs b, ap (λ z. b % 128 * z) (pow-suc 128 (length fs)), mul_assoc (b % 128) (128 ^ length fs) 128)

abbrev pub Reading : List ℕ → ℕ → ℕ → ℕ → Type 0
Reading bs place value weight = Open (take place bs) × (value ≡ grouped (take place bs)) × (weight ≡ 128 ^ place) × (value < weight) × (place < 5)

pub weighs : (place weight : ℕ) → weight ≡ 128 ^ place → place < 5 → weight ≤ 268435456
weighs place weight e h = grind (arith, common_steps, pow-le-pow_right {n = 128} (omega arith) {i = place} {j = 4} (omega arith))

pub product_fits : (place weight b : ℕ) → weight ≡ 128 ^ place → place < 5 → b % 128 * weight ≤ 127 * 268435456
product_fits place weight b e h = mul-le (b % 128) weight 127 268435456 (omega arith) (weighs place weight e h)

front : (bs : List ℕ) (place b value weight : ℕ) → place < length bs → b ≡ get_or bs place 0 → Reading bs place value weight
    → value + b % 128 * weight ≡ grouped (take place bs ++ b ∷ [])
front bs place b value weight h e w = grind (arith, common_steps, grouped_push)

pub reading_more : (bs : List ℕ) (place b value weight : ℕ) → place < length bs → b ≡ get_or bs place 0 → 128 ≤ b → b < 256 → place + 1 < 5
    → Reading bs place value weight → Reading bs (place + 1) (value + b % 128 * weight) (weight * 128)
reading_more bs place b value weight h e l s n w =
    let m = mul-le (b % 128) weight 127 weight (omega arith) (omega arith) in (
      All-more (λ x. (128 ≤ x) × (x < 256)) bs place 0 h w.0 (omega arith, omega arith),
      front bs place b value weight h e w ∙ ap grouped (ap (λ z. take place bs ++ z ∷ []) e ∙ sym (take_more bs place 0 h)),
      grind (arith, common_steps),
      omega (arith, w.3),
      n,
    )

split : (bs : List ℕ) (place b : ℕ) → place < length bs → b ≡ get_or bs place 0 → take place bs ++ b ∷ drop (place + 1) bs ≡ bs
split bs place b h e = grind (arith, common_steps)

pub reading_closes : (bs : List ℕ) (place b value weight : ℕ) (r : Result Varint VarintFault) → place < length bs → b ≡ get_or bs place 0 → b < 128
    → Reading bs place value weight
    → MatchResult r (λ v. (v ≡ record { value = value + b % 128 * weight; size = place + 1 }) × (value + b % 128 * weight < 2 ^ 32) × (1 < place + 1 → 1 ≤ b)) (λ e. (e ≡ Invalid) × ((2 ^ 32 ≤ value + b % 128 * weight) ⊎ ((1 < place + 1) × (b ≡ 0))))
    → r ≡ read_varint bs
reading_closes bs place b value weight r h e s w c =
    let n = length-take-le place bs (omega arith) in
    closes (take place bs) (drop (place + 1) bs) b (value + b % 128 * weight) (place + 1) r w.0 (omega (arith, w.4)) s (front bs place b value weight h e w) (omega arith) c
    ∙ ap read_varint (split bs place b h e)

pub reading_stops : (bs : List ℕ) (place b value weight : ℕ) → place < length bs → b ≡ get_or bs place 0 → 128 ≤ b → b < 256 → place + 1 ≡ 5
    → Reading bs place value weight → Err Invalid ≡ read_varint bs
reading_stops bs place b value weight h e l s n w =
    let o : Open (take (place + 1) bs) = All-more (λ x. (128 ≤ x) × (x < 256)) bs place 0 h w.0 (omega arith, omega arith) in
    grind (arith, common_steps, read_open (take (place + 1) bs) (drop (place + 1) bs) o)

pub reading_ends : (bs : List ℕ) (place value weight : ℕ) → length bs ≤ place → Reading bs place value weight → Err EndOfBuffer ≡ read_varint bs
reading_ends bs place value weight h w = grind (arith, common_steps, read_short, take_all)

-- the other two promises of a reading come from its value
pub back_from_value : (bs : List ℕ) (r : Result Varint VarintFault) → r ≡ read_varint bs → (v : ℕ) (rest : List ℕ) → v < 2 ^ 32 → bs ≡ varint v ++ rest
    → r ≡ Ok (record { value = v; size = length (varint v) })
back_from_value bs r e v rest h q = grind (arith, reads_back)

pub shortest_from_value : (bs : List ℕ) (r : Result Varint VarintFault) → r ≡ read_varint bs → Shortest bs r
shortest_from_value bs r e = grind (arith, reads_shortest)
