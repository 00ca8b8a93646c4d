-- Which keys make a roll. Assumes nothing.
use Rattle.std.specs.Prelude.{◌≡◌, ℕ, ◌-◌, ◌<◌, ◌≤◌, Bool, true, false, ◌&&◌, ◌||◌, List, [], ◌∷◌, length, ◌==◌, nat_lt, slice_index_or}
use Rattle.refusals.specs.Limits.{max_members}

-- the order of keys: by their bytes, a key before what it is the front of
abbrev pub before : List ℕ → List ℕ → Bool
before xs [] = false
before [] (y ∷ ys) = true
before (x ∷ xs) (y ∷ ys) = nat_lt x y || (x == y && before xs ys)

-- member i is a key, and above the one before it
abbrev pub fine : (List ℕ → Bool) → List (List ℕ) → ℕ → Bool
fine is_key keys i = is_key (slice_index_or keys i []) && (i == 0 || before (slice_index_or keys (i - 1) []) (slice_index_or keys i []))

-- keys that make a roll
pub record Enrolled (is_key : List ℕ → Bool) (keys : List (List ℕ)) : Type 0 where
  pub some : 1 ≤ length keys
  pub few : length keys ≤ max_members
  pub each : (i : ℕ) → i < length keys → fine is_key keys i ≡ true

-- keys that make none, with the index that is reported
pub data Refused (is_key : List ℕ → Bool) (keys : List (List ℕ)) (index : ℕ) : Type 0 where
  none : length keys ≡ 0 → index ≡ 0 → Refused is_key keys index
  many : max_members < length keys → index ≡ max_members → Refused is_key keys index
  first_bad : 1 ≤ length keys → length keys ≤ max_members → index < length keys
      → ((i : ℕ) → i < index → fine is_key keys i ≡ true) → fine is_key keys index ≡ false → Refused is_key keys index
