-- What is signed: the namespace's length, the namespace, the message. Assumes nothing.
use Rattle.std.specs.Prelude.{◌≡◌, ℕ, ◌-◌, ◌^◌, ◌<◌, ◌≤◌, min, ◌⊎◌, List, ◌++◌, length}
use Rattle.refusals.specs.declared.refusal.Refusal.{Refusal}
use Rattle.refusals.specs.declared.refusal.Refusal.TheVariants.{SmallBuffer, TooMany}
use Rattle.keys.specs.Bytes.{overlaid}
use Rattle.keys.specs.Varint.{varint}

unfoldable pub payload : List ℕ → List ℕ → List ℕ
payload namespace message = varint (length namespace) ++ (namespace ++ message)

-- a buffer before and after a payload was written at its front
pub record PayloadWritten (namespace message before after : List ℕ) (size : ℕ) : Type 0 where
  pub size_is : size ≡ length (payload namespace message)
  pub short : length namespace < 2 ^ 32
  pub room : length (payload namespace message) ≤ length before
  pub written : after ≡ overlaid before 0 (payload namespace message)

-- no other namespace and message give these bytes
abbrev pub Alone : List ℕ → List ℕ → Type 0
Alone namespace message = (other text : List ℕ) → length other < 2 ^ 32 → payload namespace message ≡ payload other text → (namespace ≡ other) × (message ≡ text)

-- a namespace whose length has no varint; else a buffer shorter than the payload
abbrev pub PayloadRefused : (namespace message out : List ℕ) → Refusal → Type 0
PayloadRefused namespace message out e =
    ((e ≡ TooMany (2 ^ 32 - 1)) × (2 ^ 32 ≤ length namespace))
    ⊎ ((e ≡ SmallBuffer (min (length (payload namespace message)) (2 ^ 64 - 1))) × (length namespace < 2 ^ 32) × (length out < length (payload namespace message)))
