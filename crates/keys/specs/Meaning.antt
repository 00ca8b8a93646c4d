-- What a key check means, and its laws. Assumes nothing.
use Rattle.std.specs.Prelude.{◌≡◌, ℕ, ◌≤◌, Bool, true, ◌&&◌, List, [], ◌∷◌, length}
use Rattle.refusals.specs.Limits.{max_key, max_signature}

pub record KeyMeaning : Type 0 where
  -- which bytes are keys
  pub is_key : List ℕ → Bool
  -- the bytes of a signature
  pub width : ℕ
  -- which bytes are signatures
  pub decodes : List ℕ → Bool
  -- of key, payload and signature
  pub good : List ℕ → List ℕ → List ℕ → Bool

pub record KeyLaws (m : KeyMeaning) : Type 0 where
  pub some : 1 ≤ m.width
  pub narrow : m.width ≤ max_signature
  pub short : (k : List ℕ) → m.is_key k ≡ true → length k ≤ max_key
  pub wide : (s : List ℕ) → m.decodes s ≡ true → length s ≡ m.width
  pub good_decodes : (k p s : List ℕ) → m.good k p s ≡ true → m.decodes s ≡ true
  pub good_key : (k p s : List ℕ) → m.good k p s ≡ true → m.is_key k ≡ true

-- an entry of a batch: key, payload, signature
pub record Entry : Type 0 where
  pub key : List ℕ
  pub payload : List ℕ
  pub signature : List ℕ

abbrev pub all_good : KeyMeaning → List Entry → Bool
all_good m [] = true
all_good m (e ∷ es) = m.good e.key e.payload e.signature && all_good m es

-- what stands past the end of a batch
abbrev pub no_entry : Entry
no_entry = record { key = []; payload = []; signature = [] }
