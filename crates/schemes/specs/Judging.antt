-- What a verifier of certificates means. Assumes nothing.
use Rattle.std.specs.Prelude.{◌≡◌, ℕ, ◌<◌, ◌≤◌, Bool, cond, List, length, get_or, Some, None, Ok, Err, Option, Result, ◌≢◌, nat_lt, slice_index_or}
use Rattle.refusals.specs.Limits.{max_message, max_members}
use Rattle.refusals.specs.declared.fault.BundleFault.{BundleFault}
use Rattle.refusals.specs.declared.fault.CertificateFault.{CertificateFault}
use Rattle.refusals.specs.declared.fault.Layer.TheVariants.{Bundle}
use Rattle.refusals.specs.declared.refusal.Refusal.{Refusal}
use Rattle.refusals.specs.declared.refusal.Refusal.TheVariants.{TooMany}
use Rattle.rolls.specs.Bitmap.{Bitmap, members}
use Rattle.schemes.specs.Subjects.{Said}

-- what a certificate says: whom it names, and the signatures (of a sum scheme one, the sum)
pub record Parts : Type 0 where
  pub bitmap : Bitmap
  pub signatures : List (List ℕ)

abbrev pub named : Parts → List ℕ
named p = members p.bitmap

pub record Judging : Type 0 where
  pub members : ℕ
  pub accepted : Said → Parts → Bool
  -- a certificate from its bytes, with a bound on its members
  pub reads : ℕ → List ℕ → Result Parts CertificateFault

-- what every verifier owes: from 1 to 64 members, and a certificate's fault is never the bundle's
pub record Sound (j : Judging) : Type 0 where
  pub some : 1 ≤ j.members
  pub few : j.members ≤ max_members
  pub lower : (bound : ℕ) (bytes : List ℕ) (f : CertificateFault) → j.reads bound bytes ≡ Err f → f.layer ≢ Bundle

-- what verify_certificate answers
abbrev pub verified : Judging → Said → Parts → Result Bool Refusal
verified j t p = cond (nat_lt max_message (length t.message)) (Err (TooMany max_message)) (Ok (j.accepted t p))

-- an entry to be judged: a message, and a certificate or why it could not be read
pub record Seen : Type 0 where
  pub message : List ℕ
  pub certificate : Result Parts BundleFault

-- the entry at a place of a list, if the list reaches there
abbrev pub At : List Seen → ℕ → Option Seen → Type 0
At es i None = length es ≤ i
At es i (Some e) = (i < length es) × ((d : Seen) → slice_index_or es i d ≡ e)

-- the message there
abbrev pub MessageAt : List Seen → ℕ → Option (List ℕ) → Type 0
MessageAt es i None = length es ≤ i
MessageAt es i (Some m) = (i < length es) × ((d : Seen) → (get_or es i d).message ≡ m)
