-- The order of keys, and a roll filled member by member. Assumes nothing.
use Rattle.std.proofs.Common.{◌≡◌, ℕ, ◌+◌, ◌-◌, ◌<◌, Bool, true, false, ◌&&◌, ◌||◌, eqb, List, [], ◌∷◌, ◌++◌, map, length, get_or, take, Some, None, Option, sym, refl, ap, ◌∙◌, arith, below_more, MatchOption}
use Rattle.std.specs.Borrow.{Bor}
use Rattle.std.specs.Cmp.Lexicographic.{slice_partial_cmp}
use Rattle.std.specs.Ordering.{nat_cmp, is_lt, is_some_and}
use Rattle.std.proofs.lemmas.Bool.Decides.{nat_tests}
use Rattle.std.proofs.lemmas.Bool.{eq-eqb, ne_eqb, and_from}
use Rattle.std.proofs.lemmas.Cmp.{same_from_slice_cmp_tested}
use Rattle.std.proofs.lemmas.List.{get_or-map, length-map, map_push, take_more}
use Rattle.rolls.specs.Enrolled.{before, fine}
use Rattle.rolls.specs.Roll.{raw_keys}
use Rattle.rolls.specs.declared.roll.Member.{Member}

-- a key that stands above the one before it, if there is one
abbrev pub Stands : Option (Bor (List ℕ)) → List ℕ → Bool → Type 0
Stands below key b = MatchOption below (b ≡ true) (λ x. b ≡ before x.now key)

before_is : (low high : List ℕ) (r : Bool) → r ≡ is_some_and is_lt (slice_partial_cmp (λ x y. Some (nat_cmp x y)) low high) → r ≡ before low high
before_is = same_from_slice_cmp_tested nat_cmp is_lt before refl (λ _ _. refl) (λ _ _. refl) (λ x y xs ys o h. grind (arith, nat_tests))

pub stands : (below : Option (Bor (List ℕ))) (key : List ℕ) (b : Bool)
    → MatchOption below (b ≡ true) (λ x. b ≡ is_some_and is_lt (slice_partial_cmp (λ x y. Some (nat_cmp x y)) x.now key)) → Stands below key b
stands None key b h = h
stands (Some x) key b h = before_is x.now key b h

-- the keys of the first i members are in the roll; the last of them stands below the next
pub record Filled {K : Type 0} (is_key : List ℕ → Bool) (key : K → List ℕ) (raws : List (List ℕ)) (i : ℕ) (ks : List K) (below : Option (Bor (List ℕ))) : Type 0 where
  pub same : map key ks ≡ take i raws
  pub each : (k : ℕ) → k < i → fine is_key raws k ≡ true
  pub last : MatchOption below (i ≡ 0) (λ x. (0 < i) × (x.now ≡ get_or raws (i - 1) []))

above : (raws : List (List ℕ)) (i : ℕ) (below : Option (Bor (List ℕ))) (b : Bool)
    → MatchOption below (i ≡ 0) (λ x. (0 < i) × (x.now ≡ get_or raws (i - 1) [])) → Stands below (get_or raws i []) b
    → (eqb i 0 || before (get_or raws (i - 1) []) (get_or raws i [])) ≡ b
above raws i None b l s = rw (eq-eqb i 0 l) (sym s)
above raws i (Some x) b l s = let q : eqb i 0 ≡ false = ne_eqb i 0 (λ e. omega arith) in rw q (ap (λ z. before z (get_or raws i [])) (sym l.1) ∙ sym s)

module _ {K : Type 0} (is_key : List ℕ → Bool) (key : K → List ℕ) (ms : List Member) (i : ℕ) (ks : List K) (below : Option (Bor (List ℕ))) (d : Member) (b : Bool) where
  raw_at : i < length ms → get_or (raw_keys ms) i [] ≡ (get_or ms i d).key.now
  raw_at l = get_or-map (λ m. m.key.now) ms i d [] l

  fine_is : i < length ms → Filled is_key key (raw_keys ms) i ks below → Stands below (get_or ms i d).key.now b
      → fine is_key (raw_keys ms) i ≡ (is_key (get_or (raw_keys ms) i []) && b)
  fine_is l f s = ap (λ z. is_key (get_or (raw_keys ms) i []) && z) (above (raw_keys ms) i below b f.last (rw (raw_at l) s))

  pub filled_more : (k : K) (after : List K) → i < length ms → Filled is_key key (raw_keys ms) i ks below → Stands below (get_or ms i d).key.now b → b ≡ true
      → is_key (key k) ≡ true → key k ≡ (get_or ms i d).key.now → after ≡ ks ++ k ∷ []
      → Filled is_key key (raw_keys ms) (i + 1) after (Some (get_or ms i d).key)
  filled_more k after l f s t y e p =
      let n : i < length (raw_keys ms) = omega (arith, length-map ms (λ m. m.key.now)) in
      let h : key k ≡ get_or (raw_keys ms) i [] = e ∙ sym (raw_at l) in
      let z : i + 1 - 1 ≡ i = omega arith in
      record {
        same = ap (map key) p ∙ map_push key ks k ∙ rw (f.same, h) (sym (take_more (raw_keys ms) i [] n));
        each = below_more _ i f.each (fine_is l f s ∙ and_from (is_key (get_or (raw_keys ms) i [])) b (ap is_key (sym h) ∙ y) t);
        last = (omega arith, rw z (sym (raw_at l)));
      }
