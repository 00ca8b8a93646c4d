-- The list of a bitmap's members: it ascends, and has just the members. Assumes nothing.
use Rattle.std.proofs.Common.{◌≡◌, ℕ, zero, suc, ◌+◌, ◌<◌, ◌≤◌, Bool, true, false, cond, ◌||◌, eqb, ◌⊎◌, List, [], ◌∷◌, ◌++◌, length, get_or, take, sym, refl, ap, ◌∙◌, subst, inl, inr, ⊎_elim, add-one, arith}
use Rattle.std.proofs.Math.Bool.{or-false}
use Rattle.std.proofs.lemmas.List.{append-nil, append_assoc, length-append, get_or_at, get_or_append_left, take_at}
use Rattle.std.proofs.lemmas.Bool.{both_ways, cases_lt, cases_eq, cases_Bool, eq-eqb, ne_eqb, or_left, or_from}
use Rattle.rolls.specs.Bitmap.{has, among, members_below}
use Rattle.rolls.proofs.BitLaws.{among_push}
use Rattle.rolls.proofs.MemberLaws.{count_suc, cond_le}

-- one index more: a member, or not
pub members_in : (n bits : ℕ) → has bits n ≡ true → members_below (n + 1) bits ≡ members_below n bits ++ n ∷ []
members_in n bits h = rw (add-one n, h) refl

pub members_out : (n bits : ℕ) → has bits n ≡ false → members_below (n + 1) bits ≡ members_below n bits
members_out n bits h = rw (add-one n, h) (append-nil (members_below n bits))

-- the members below m are the front of those below n
pub members_split : (m n bits : ℕ) → m ≤ n → (rest : List ℕ) × (members_below n bits ≡ members_below m bits ++ rest)
members_split m zero bits l = let e : zero ≡ m = omega arith in ([], ap (λ k. members_below k bits) e ∙ sym (append-nil (members_below m bits)))
members_split m (suc n) bits l =
    ⊎_elim
    (λ p. let s = members_split m n bits (omega arith) in
    (s.0 ++ cond (has bits n) (n ∷ []) [], ap (λ z. z ++ cond (has bits n) (n ∷ []) []) s.1 ∙ append_assoc (members_below m bits) s.0 (cond (has bits n) (n ∷ []) [])))
    (λ p. let e : suc n ≡ m = omega arith in ([], ap (λ k. members_below k bits) e ∙ sym (append-nil (members_below m bits))))
    (cases_lt m (suc n))

pub members-front : (m n bits : ℕ) → m ≤ n → take (length (members_below m bits)) (members_below n bits) ≡ members_below m bits
members-front m n bits l = let s = members_split m n bits l in rw s.1 (take_at (members_below m bits) s.0 (length (members_below m bits)) refl)

-- a member stands behind those below it
members_around : (i n bits : ℕ) → i < n → has bits i ≡ true → (rest : List ℕ) × (members_below n bits ≡ members_below i bits ++ i ∷ rest)
members_around i n bits l h =
    let s = members_split (i + 1) n bits (omega arith) in
    (s.0, s.1 ∙ ap (λ z. z ++ s.0) (members_in i bits h) ∙ append_assoc (members_below i bits) (i ∷ []) s.0)

pub members_at : (i n bits : ℕ) → i < n → has bits i ≡ true → get_or (members_below n bits) (length (members_below i bits)) 0 ≡ i
members_at i n bits l h =
    let s = members_around i n bits l h in
    rw s.1 (get_or_at (members_below i bits) i s.0 0 (length (members_below i bits)) refl)

pub count_lt : (i n bits : ℕ) → i < n → has bits i ≡ true → length (members_below i bits) < length (members_below n bits)
count_lt i n bits l h =
    let s = members_around i n bits l h in
    let e : length (members_below n bits) ≡ length (members_below i bits) + length (i ∷ s.0) = ap length s.1 ∙ length-append (members_below i bits) (i ∷ s.0) in
    omega arith

-- each place of the list has a member, with those below it before
pub members-place : (n bits k : ℕ) → k < length (members_below n bits)
    → (i : ℕ) × (i < n) × (has bits i ≡ true) × (length (members_below i bits) ≡ k) × (get_or (members_below n bits) k 0 ≡ i)
members-place zero bits k l = absurd (omega arith)
members-place (suc n) bits k l =
    ⊎_elim
    (λ p. let s = members-place n bits k p in
    (s.0, omega (arith, s.1), s.2, s.3, get_or_append_left (members_below n bits) (cond (has bits n) (n ∷ []) []) 0 k p ∙ s.4))
    (λ p. let h : has bits n ≡ true = ⊎_elim (λ e. e) (λ e. absurd (let z = count_suc n bits in let y : ◌≡◌ {A = ℕ} (cond (has bits n) 1 0) 0 = rw e refl in omega arith)) (cases_Bool (has bits n)) in
    let e : length (members_below n bits) ≡ k = let z = count_suc n bits in let y = cond_le (has bits n) in omega arith in
    (n, omega arith, h, e, ap (λ j. get_or (members_below (suc n) bits) j 0) (sym e) ∙ members_at n (suc n) bits (omega arith) h))
    (cases_lt k (length (members_below n bits)))

pub count_mono : (m n bits : ℕ) → m ≤ n → length (members_below m bits) ≤ length (members_below n bits)
count_mono m n bits l =
    let s = members_split m n bits l in
    let e : length (members_below n bits) ≡ length (members_below m bits) + length s.0 = ap length s.1 ∙ length-append (members_below m bits) s.0 in
    omega arith

-- the list ascends
pub members_ascend : (n bits j k : ℕ) → j < k → k < length (members_below n bits) → get_or (members_below n bits) j 0 < get_or (members_below n bits) k 0
members_ascend n bits j k p l =
    let a = members-place n bits j (omega arith) in
    let b = members-place n bits k l in
    let q : a.0 < b.0 = ⊎_elim (λ h. h) (λ h. absurd (omega (arith, count_mono b.0 a.0 bits h, a.3, b.3))) (cases_lt a.0 b.0) in
    rw (a.4, b.4) q

-- and has just the members
among_suc : (i n bits : ℕ) → among i (members_below (suc n) bits) ≡ (among i (members_below n bits) || cond (has bits n) (eqb n i) false)
among_suc i n bits =
    ⊎_elim (λ e. rw e (among_push i (members_below n bits) n))
    (λ e. rw e (ap (among i) (append-nil (members_below n bits)) ∙ sym (or-false (among i (members_below n bits)))))
    (cases_Bool (has bits n))

pub among_above : (i n bits : ℕ) → n ≤ i → among i (members_below n bits) ≡ false
among_above i zero bits l = refl
among_above i (suc n) bits l =
    let e : eqb n i ≡ false = ne_eqb n i (λ q. omega arith) in
    among_suc i n bits ∙ rw (among_above i n bits (omega arith), e) (both (has bits n))
  where
    both : (b : Bool) → cond b false false ≡ false
    both true = refl
    both false = refl

pub among-members : (i n bits : ℕ) → i < n → among i (members_below n bits) ≡ has bits i
among-members i zero bits l = absurd (omega arith)
among-members i (suc n) bits l =
    ⊎_elim
    (λ e. let q : eqb n i ≡ true = eq-eqb n i e in
    among_suc i n bits ∙ rw (among_above i n bits (omega arith), q, e) (same (has bits i)))
    (λ e. let q : eqb n i ≡ false = ne_eqb n i e in
    among_suc i n bits ∙ rw (among-members i n bits (omega arith), q) (none (has bits i) (has bits n)))
    (cases_eq n i)
  where
    same : (b : Bool) → cond b true false ≡ b
    same true = refl
    same false = refl

    none : (a b : Bool) → (a || cond b false false) ≡ a
    none true b = refl
    none false true = refl
    none false false = refl

-- lists that ascend from m and stay below n
abbrev pub Ascends : ℕ → ℕ → List ℕ → Type 0
Ascends m n [] = m ≤ n
Ascends m n (x ∷ xs) = (m ≤ x) × (x < n) × Ascends (suc x) n xs

ascends_wider : (m n : ℕ) (xs : List ℕ) → Ascends m n xs → Ascends m (suc n) xs
ascends_wider m n [] h = omega arith
ascends_wider m n (x ∷ xs) h = (h.0, omega (arith, h.1), ascends_wider (suc x) n xs h.2)

ascends_push : (m n : ℕ) (xs : List ℕ) → Ascends m n xs → Ascends m (suc n) (xs ++ n ∷ [])
ascends_push m n [] h = (h, omega arith, omega arith)
ascends_push m n (x ∷ xs) h = (h.0, omega (arith, h.1), ascends_push (suc x) n xs h.2)

pub members_ascends : (n bits : ℕ) → Ascends 0 n (members_below n bits)
members_ascends zero bits = omega arith
members_ascends (suc n) bits =
    ⊎_elim (λ e. rw e (ascends_push 0 n (members_below n bits) (members_ascends n bits)))
    (λ e. rw e (subst (Ascends 0 (suc n)) (sym (append-nil (members_below n bits))) (ascends_wider 0 n (members_below n bits) (members_ascends n bits))))
    (cases_Bool (has bits n))

-- what stands below the first is not among them
ascends_low : (m n : ℕ) (xs : List ℕ) (i : ℕ) → Ascends m n xs → i < m → among i xs ≡ false
ascends_low m n [] i h l = refl
ascends_low m n (x ∷ xs) i h l =
    or_from (eqb x i) (among i xs) (ne_eqb x i (λ e. omega (arith, h.0))) (ascends_low (suc x) n xs i h.2 (omega (arith, h.0)))

among_first : (x : ℕ) (xs : List ℕ) → among x (x ∷ xs) ≡ true
among_first x xs = or_left (eqb x x) (among x xs) (eq-eqb x x refl)

-- two lists that ascend and have the same among them are one
pub same_ascending : (m n : ℕ) (xs ys : List ℕ) → Ascends m n xs → Ascends m n ys → ((i : ℕ) → among i xs ≡ among i ys) → xs ≡ ys
same_ascending m n [] [] a b h = refl
same_ascending m n [] (y ∷ ys) a b h = absurd (both_ways (among y (y ∷ ys)) (sym (h y)) (among_first y ys))
same_ascending m n (x ∷ xs) [] a b h = absurd (both_ways (among x (x ∷ xs)) (h x) (among_first x xs))
same_ascending m n (x ∷ xs) (y ∷ ys) a b h =
    let e : x ≡ y = first_same (cases_lt x y) (cases_lt y x) in
    let b' : Ascends (suc x) n ys = subst (λ z. Ascends (suc z) n ys) (sym e) b.2 in
    rw (same_ascending (suc x) n xs ys a.2 b' (λ i. rest i e b' (cases_lt x i)), e) refl
  where
    first_same : (x < y) ⊎ (y ≤ x) → (y < x) ⊎ (x ≤ y) → x ≡ y
    first_same (inl p) q =
        absurd (both_ways (among x (x ∷ xs)) (h x ∙ ascends_low y n (y ∷ ys) x (omega arith, b.1, b.2) p) (among_first x xs))
    first_same (inr p) (inl q) =
        absurd (both_ways (among y (y ∷ ys)) (sym (h y) ∙ ascends_low x n (x ∷ xs) y (omega arith, a.1, a.2) q) (among_first y ys))
    first_same (inr p) (inr q) = omega arith

    rest : (i : ℕ) → x ≡ y → Ascends (suc x) n ys → (x < i) ⊎ (i ≤ x) → among i xs ≡ among i ys
    rest i e b' (inl l) =
        let p : eqb x i ≡ false = ne_eqb x i (λ q. omega arith) in
        let q : eqb y i ≡ false = ne_eqb y i (λ r. omega arith) in
        let s : (false || among i xs) ≡ (false || among i ys) = rw (p, q) at (h i) in s
    rest i e b' (inr l) = ascends_low (suc x) n xs i a.2 (omega arith) ∙ sym (ascends_low (suc x) n ys i b' (omega arith))

-- the members of an ascending list are the list
pub members-listed : (n bits : ℕ) (xs : List ℕ) → Ascends 0 n xs → ((i : ℕ) → has bits i ≡ among i xs) → members_below n bits ≡ xs
members-listed n bits xs a h = same_ascending 0 n (members_below n bits) xs (members_ascends n bits) a (λ i. same i (cases_lt i n))
  where
    above : (m : ℕ) (ys : List ℕ) (i : ℕ) → Ascends m n ys → n ≤ i → among i ys ≡ false
    above m [] i b l = refl
    above m (y ∷ ys) i b l = or_from (eqb y i) (among i ys) (ne_eqb y i (λ e. omega (arith, b.1))) (above (suc y) ys i b.2 l)

    same : (i : ℕ) → (i < n) ⊎ (n ≤ i) → among i (members_below n bits) ≡ among i xs
    same i (inl l) = among-members i n bits l ∙ h i
    same i (inr l) = among_above i n bits l ∙ sym (above 0 xs i a l)
