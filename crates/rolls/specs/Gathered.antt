-- Which lists of members make a set of signers. Assumes nothing.
use Rattle.std.specs.Prelude.{◌≡◌, ℕ, ◌<◌, ◌≤◌, Bool, true, not, ◌&&◌, List, length, take, nat_lt, slice_index}
use Rattle.refusals.specs.Limits.{max_members}
use Rattle.refusals.specs.declared.refusal.Refusal.{Refusal}
use Rattle.refusals.specs.declared.refusal.Refusal.TheVariants.{TooMany, UnknownSigner, DuplicateSigner}
use Rattle.rolls.specs.Bitmap.{Bitmap, has, among, members}

-- the list's i-th is a member of n, and stands nowhere before
abbrev pub fresh : ℕ → List ℕ → ℕ → Bool
fresh n xs i = nat_lt (slice_index xs i) n && not (among (slice_index xs i) (take i xs))

-- the bitmap of a list of members of n, each once
pub record Gathered (n : ℕ) (xs : List ℕ) (b : Bitmap) : Type 0 where
  pub few : n ≤ max_members
  pub len : b.len ≡ n
  pub each : (i : ℕ) → i < length xs → fresh n xs i ≡ true
  pub bits : (i : ℕ) → has b.bits i ≡ among i xs
  pub count : length (members b) ≡ length xs

-- a list that makes none: there are too many members, or the first at fault is no member, or stands before
pub data Unfit (n : ℕ) (xs : List ℕ) (e : Refusal) : Type 0 where
  many : max_members < n → e ≡ TooMany max_members → Unfit n xs e
  unknown : (i : ℕ) → n ≤ max_members → i < length xs → ((k : ℕ) → k < i → fresh n xs k ≡ true)
      → n ≤ slice_index xs i → e ≡ UnknownSigner (slice_index xs i) → Unfit n xs e
  twice : (i : ℕ) → n ≤ max_members → i < length xs → ((k : ℕ) → k < i → fresh n xs k ≡ true)
      → slice_index xs i < n → among (slice_index xs i) (take i xs) ≡ true → e ≡ DuplicateSigner (slice_index xs i) → Unfit n xs e
