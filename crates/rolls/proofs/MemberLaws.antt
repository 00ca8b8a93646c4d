-- How many members a bitmap has. Assumes nothing.
use Rattle.std.proofs.Common.{◌≡◌, ℕ, zero, suc, ◌+◌, ◌*◌, ◌/◌, ◌%◌, ◌^◌, ◌<◌, ◌≤◌, Bool, true, false, cond, ◌||◌, eqb, [], length, sym, refl, ap, ◌∙◌, subst, ⊎_elim, arith}
use native.Mathlib.Nat.{mod-eq_of_lt}
use lib.Count.{ones, ones_cat}
use Rattle.std.proofs.Math.Bool.{or-false}
use Rattle.std.proofs.lemmas.Nat.{pow_pos, mod-pow-add, mod_below}
use Rattle.std.proofs.lemmas.List.{append-nil, length_push}
use Rattle.std.proofs.lemmas.Bool.{cases_lt, cases_eq, cases_Bool, eq-eqb, ne_eqb, or_right}
use Rattle.rolls.specs.Bitmap.{has, members_below}

-- one index more: a member, or not
pub count_suc : (n bits : ℕ) → length (members_below (suc n) bits) ≡ length (members_below n bits) + cond (has bits n) 1 0
count_suc n bits =
    ⊎_elim (λ e. rw e (length_push (members_below n bits) n))
    (λ e. rw e (ap length (append-nil (members_below n bits)) ∙ omega arith))
    (cases_Bool (has bits n))

pub cond_le : (b : Bool) → cond b 1 0 ≤ 1
cond_le true = omega arith
cond_le false = omega arith

-- the ones of a number, as the members that they are
one_bit : (x : ℕ) → ones (x % 2) ≡ cond (eqb (x % 2) 1) 1 0
unfolding ones
one_bit x =
    ⊎_elim (λ l. let e : x % 2 ≡ 0 = omega arith in rw e refl) (λ g. let e : x % 2 ≡ 1 = omega arith in rw e refl) (cases_lt (x % 2) 1)

ones_low : (n bits : ℕ) → ones (bits % 2 ^ n) ≡ length (members_below n bits)
unfolding ones
ones_low zero bits = let e : bits % 2 ^ 0 ≡ 0 = omega arith in rw e refl
ones_low (suc n) bits =
    let s : bits % 2 ^ suc n ≡ bits / 2 ^ n % 2 * 2 ^ n + bits % 2 ^ n = ap (λ k. bits % 2 ^ k) (omega arith) ∙ mod-pow-add bits 1 n in
    ap ones s ∙ ones_cat n (bits / 2 ^ n % 2) (bits % 2 ^ n) (mod_below bits (2 ^ n) (pow_pos n)) ∙ omega (arith, ones_low n bits, count_suc n bits, one_bit (bits / 2 ^ n))

pub count_ones-is : (n bits : ℕ) → bits < 2 ^ n → ones bits ≡ length (members_below n bits)
count_ones-is n bits h = ap ones (sym (mod-eq_of_lt h)) ∙ ones_low n bits

pub count_le : (n bits : ℕ) → length (members_below n bits) ≤ n
count_le zero bits = omega arith
count_le (suc n) bits = omega (arith, count_le n bits, count_suc n bits, cond_le (has bits n))

-- no member from m up to n
pub members_skip : (m n bits : ℕ) → m ≤ n → ((k : ℕ) → m ≤ k → k < n → has bits k ≡ false) → members_below n bits ≡ members_below m bits
members_skip m zero bits l h = let e : zero ≡ m = omega arith in ap (λ k. members_below k bits) e
members_skip m (suc n) bits l h =
    ⊎_elim
    (λ p. let q : has bits n ≡ false = h n (omega arith) (omega arith) in
    rw q (append-nil (members_below n bits) ∙ members_skip m n bits (omega arith) (λ k a b. h k a (omega arith))))
    (λ p. let e : suc n ≡ m = omega arith in ap (λ k. members_below k bits) e)
    (cases_lt m (suc n))

pub members-none : (n bits : ℕ) → ((k : ℕ) → k < n → has bits k ≡ false) → members_below n bits ≡ []
members-none n bits h = members_skip 0 n bits (omega arith) (λ k a b. h k b)

-- one bit more is one member more
module _ (bits more x : ℕ) (clear : has bits x ≡ false) (set : (i : ℕ) → has more i ≡ (has bits i || eqb x i)) where
  same_at : (i : ℕ) → (x ≡ i → ⊥) → has more i ≡ has bits i
  same_at i ne = set i ∙ rw (ne_eqb x i ne) (or-false (has bits i))

  count_same : (n : ℕ) → n ≤ x → length (members_below n more) ≡ length (members_below n bits)
  count_same zero l = refl
  count_same (suc n) l =
      let e = same_at n (λ q. omega arith) in
      let r = count_same n (omega arith) in
      count_suc n more ∙ rw (e, r) (sym (count_suc n bits))

  pub count_set : (n : ℕ) → x < n → length (members_below n more) ≡ length (members_below n bits) + 1
  count_set zero l = absurd (omega arith)
  count_set (suc n) l =
      ⊎_elim
      (λ e. let m : has more n ≡ true = set n ∙ or_right (has bits n) (eqb x n) (eq-eqb x n e) in
      let b : has bits n ≡ false = subst (λ k. has bits k ≡ false) e clear in
      let p : ◌≡◌ {A = ℕ} (cond (has more n) 1 0) 1 = rw m refl in
      let q : ◌≡◌ {A = ℕ} (cond (has bits n) 1 0) 0 = rw b refl in
      omega (arith, count_suc n more, count_suc n bits, count_same n (omega arith)))
      (λ ne. let e : ◌≡◌ {A = ℕ} (cond (has more n) 1 0) (cond (has bits n) 1 0) = ap (λ b. cond b 1 0) (same_at n ne) in
      omega (arith, count_suc n more, count_suc n bits, count_set n (omega arith)))
      (cases_eq x n)
