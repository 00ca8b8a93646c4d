-- Judging entry by entry. Assumes nothing.
use Rattle.std.proofs.Common.{◌≡◌, ℕ, ◌+◌, ◌<◌, ◌≤◌, Bool, true, false, not, List, [], ◌∷◌, ◌++◌, map, length, get_or, take, drop, set, Ok, sym, refl, ap, ◌∙◌, arith}
use Rattle.std.proofs.lemmas.List.{take_more_set, map_more, take_all, take-append-drop, drop-set-lt, drop-drop}
use Rattle.std.proofs.lemmas.Bool.{le-ltb}
use Rattle.schemes.specs.Judging.{Seen}
use Rattle.refusals.specs.Limits.{max_certificates}
use Rattle.bundle.specs.Verdicts.{some_long, counted}

module _ {X Y : Type 0} (f : X → Y) (xs : List X) where
  -- one more verdict in front
  pub front_more : (i : ℕ) (x : X) (now : List Y) (y : Y) → i < length xs → i < length now → ((d : X) → get_or xs i d ≡ x) → y ≡ f x
      → take i now ≡ map f (take i xs) → take (i + 1) (set now i y) ≡ map f (take (i + 1) xs)
  front_more i x now y h k e q p =
      take_more_set now i y k ∙ (λ j. p j ++ q j ∷ []) ∙ ap (λ z. map f (take i xs) ++ f z ∷ []) (sym (e x)) ∙ sym (map_more f xs i x h)

  pub front_all : (i : ℕ) (now : List Y) → length xs ≤ i → length now ≤ i → take i now ≡ map f (take i xs) → now ≡ map f xs
  front_all i now h k p = sym (take_all i now k) ∙ p ∙ ap (map f) (take_all i xs h)

-- one more verdict, and what lies behind it is as it was
pub verdicts_more : {X Y : Type 0} (f : X → Y) (xs : List X) (i : ℕ) (x : X) (before now : List Y) (y : Y) → i < length xs → i < length now → ((d : X) → get_or xs i d ≡ x) → y ≡ f x
    → (take i now ≡ map f (take i xs)) × (drop i now ≡ drop i before)
    → (take (i + 1) (set now i y) ≡ map f (take (i + 1) xs)) × (drop (i + 1) (set now i y) ≡ drop (i + 1) before)
verdicts_more f xs i x before now y h k e q p = (
  front_more f xs i x now y h k e q p.0,
  drop-set-lt (i + 1) now i y (omega arith) ∙ sym (drop-drop 1 i now) ∙ ap (drop 1) p.1 ∙ drop-drop 1 i before,
)

-- all verdicts, and what lies behind them
pub verdicts_all : {X Y : Type 0} (f : X → Y) (xs : List X) (i : ℕ) (before now : List Y) → i ≡ length xs
    → (take i now ≡ map f (take i xs)) × (drop i now ≡ drop i before) → now ≡ map f xs ++ drop (length xs) before
verdicts_all f xs i before now e p =
    sym (take-append-drop i now) ∙ (λ j. p.0 j ++ p.1 j) ∙ ap (λ z. map f z ++ drop i before) (take_all i xs (omega arith)) ∙ ap (λ n. map f xs ++ drop n before) e

pub counted_all : (es : List Seen) (room : ℕ) → some_long es ≡ false → length es ≤ max_certificates → length es ≤ room → Ok (length es) ≡ counted es room
counted_all es room h k l = sym (rw (h, le-ltb max_certificates (length es) k, le-ltb room (length es) l) refl)

pub not_long : (x b : Bool) → x ≡ true → x ≡ not b → b ≡ false
not_long x true p q = sym p ∙ q
not_long x false p q = refl
