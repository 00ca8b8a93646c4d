-- The front of a list of members, gathered. Assumes nothing.
use Rattle.std.proofs.Common.{◌≡◌, ℕ, ◌+◌, ◌^◌, ◌<◌, ◌≤◌, true, false, ◌||◌, eqb, List, length, get_or, take, sym, refl, ap, ◌∙◌, arith, below_more}
use Rattle.std.proofs.lemmas.Nat.{pow_pos}
use Rattle.std.proofs.lemmas.List.{take_more}
use Rattle.std.proofs.lemmas.Bool.{lt-ltb}
use Rattle.rolls.specs.Bitmap.{Bitmap, has, among, members}
use Rattle.rolls.specs.Gathered.{fresh}
use Rattle.rolls.proofs.BitLaws.{has_zero, with_bit, has-set_64, set_below_64, among_push}
use Rattle.rolls.proofs.MemberLaws.{members-none, count_set}

-- the first i of the list are gathered in a bitmap
pub record Front (n : ℕ) (xs : List ℕ) (i : ℕ) (b : Bitmap) : Type 0 where
  pub len : b.len ≡ n
  pub fits : b.bits < 2 ^ n
  pub each : (k : ℕ) → k < i → fresh n xs k ≡ true
  pub bits : (j : ℕ) → has b.bits j ≡ among j (take i xs)
  pub count : length (members b) ≡ i

pub front-none : (n : ℕ) (xs : List ℕ) → Front n xs 0 (record { len = n; bits = 0 })
front-none n xs =
    record {
      len = refl;
      fits = pow_pos n;
      each = λ k h. absurd (omega arith);
      bits = has_zero;
      count = ap length (members-none n 0 (λ k h. has_zero k));
    }

pub front_more : (n : ℕ) (xs : List ℕ) (i : ℕ) (b : Bitmap) → n ≤ 64 → i < length xs → get_or xs i 0 < n → has b.bits (get_or xs i 0) ≡ false
    → Front n xs i b → Front n xs (i + 1) (record { len = b.len; bits = with_bit b.bits (get_or xs i 0) })
front_more n xs i b few l below clear f =
    let x = get_or xs i 0 in
    let h : get_or xs i 0 < 64 = omega arith in
    let set = λ (j : ℕ). has-set_64 b.bits (get_or xs i 0) j h in
    let a : among (get_or xs i 0) (take i xs) ≡ false = sym (f.bits (get_or xs i 0)) ∙ clear in
    record {
      len = f.len;
      fits = set_below_64 n b.bits (get_or xs i 0) few f.fits below;
      each = below_more _ i f.each (rw (lt-ltb (get_or xs i 0) n below, a) refl);
      bits = λ j. set j ∙ ap (λ z. z || eqb (get_or xs i 0) j) (f.bits j) ∙ sym (ap (among j) (take_more xs i 0 l) ∙ among_push j (take i xs) (get_or xs i 0));
      count = count_set b.bits (with_bit b.bits (get_or xs i 0)) (get_or xs i 0) clear set b.len (omega (arith, f.len)) ∙ ap (λ k. k + 1) f.count;
    }
