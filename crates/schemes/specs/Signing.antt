-- What signing gives. Assumes nothing.
use Rattle.std.specs.Prelude.{◌≡◌, ℕ, ◌<◌, ◌≤◌, true, length, Some, None, Ok, Err, Option, Result}
use Rattle.refusals.specs.Limits.{max_message}
use Rattle.refusals.specs.declared.refusal.Refusal.{Refusal}
use Rattle.refusals.specs.declared.refusal.Refusal.TheVariants.{TooMany}
use Rattle.keys.specs.Signed.{signed}
use Rattle.schemes.specs.declared.attestation.Attestation.{Attestation}
use Rattle.schemes.specs.Meaning.{Meaning}
use Rattle.schemes.specs.Subjects.{Said}

-- the own member with a good signature, or none without a key
abbrev pub Own : Meaning → Option ℕ → Said → Option Attestation → Type 0
Own m me t None = ◌≡◌ {A = Option ℕ} me None
Own m me t (Some a) = (me ≡ Some a.signer) × (m.good t a.signer (signed a.signature) ≡ true)

abbrev pub Signed : Meaning → Option ℕ → Said → Result (Option Attestation) Refusal → Type 0
Signed m me t (Ok a) = (length t.message ≤ max_message) × Own m me t a
Signed m me t (Err e) = (max_message < length t.message) × (e ≡ TooMany max_message)
