-- When a scheme is made of a namespace and keys. Assumes nothing.
use Rattle.std.specs.Prelude.{◌≡◌, ℕ, ◌<◌, ◌≤◌, Bool, ◌⊎◌, List, length, Ok, Err, Result}
use Rattle.refusals.specs.Limits.{max_namespace}
use Rattle.refusals.specs.declared.refusal.Refusal.{Refusal}
use Rattle.refusals.specs.declared.refusal.Refusal.TheVariants.{TooMany, BadRoll}
use Rattle.rolls.specs.Enrolled.{Enrolled, Refused}

-- the namespace is within its limit and the keys make a roll; a long namespace is told before a bad roll
abbrev pub Made : {S : Type 0} → (List ℕ → Bool) → List ℕ → List (List ℕ) → (S → Type 0) → Result S Refusal → Type 0
Made is_key namespace keys P (Ok s) = (length namespace ≤ max_namespace) × Enrolled is_key keys × P s
Made is_key namespace keys P (Err e) =
    ((max_namespace < length namespace) × (e ≡ TooMany max_namespace))
    ⊎ ((length namespace ≤ max_namespace) × ((index : ℕ) × (e ≡ BadRoll index) × Refused is_key keys index))
