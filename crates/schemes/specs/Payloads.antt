-- What a member signs. Assumes nothing.
use Rattle.std.specs.Prelude.{◌≡◌, ℕ, ◌<◌, ◌≤◌, ◌⊎◌, List, length, Ok, Err, Result}
use Rattle.refusals.specs.Limits.{max_namespace}
use Rattle.refusals.specs.declared.refusal.Refusal.{Refusal}
use Rattle.refusals.specs.declared.refusal.Refusal.TheVariants.{TooMany}
use Rattle.keys.specs.Payload.{PayloadWritten, PayloadRefused, Alone}
use Rattle.schemes.specs.Subjects.{Said}

-- a buffer before and after the payload of a subject, under the namespace that its kind derives from a base; a long base is told
-- before a short buffer, and no other namespace and message give these bytes
abbrev pub Signable : (List ℕ → List ℕ) → List ℕ → Said → List ℕ → List ℕ → Result ℕ Refusal → Type 0
Signable derived base t before after (Ok n) = (length base ≤ max_namespace) × PayloadWritten (derived base) t.message before after n × Alone (derived base) t.message
Signable derived base t before after (Err e) =
    (((max_namespace < length base) × (e ≡ TooMany max_namespace)) ⊎ ((length base ≤ max_namespace) × PayloadRefused (derived base) t.message before e))
    × (after ≡ before)
