-- What judging gives. Assumes nothing.
use Rattle.std.specs.Prelude.{◌≡◌, ℕ, Bool, false, cond, ◌||◌, List, [], ◌∷◌, ◌++◌, map, length, drop, is_ok, Ok, Err, Result, nat_lt}
use Rattle.refusals.specs.Faults.{raised}
use Rattle.refusals.specs.Limits.{max_message, max_certificates, max_input}
use Rattle.refusals.specs.declared.fault.BundleFault.{BundleFault}
use Rattle.refusals.specs.declared.refusal.Refusal.{Refusal}
use Rattle.refusals.specs.declared.refusal.Refusal.TheVariants.{SmallBuffer, TooMany}
use Rattle.refusals.specs.Results.{map_err}
use Rattle.schemes.specs.Judging.{Judging, Parts, Seen}
use Rattle.bundle.specs.declared.verdict.Verdict.{Verdict}
use Rattle.bundle.specs.declared.verdict.Verdict.TheVariants.{Accepted, Rejected, Faulty}
use Rattle.refusals.specs.Numbers.{refused}
use Rattle.refusals.specs.declared.fault.FaultKind.TheVariants.{InvalidLength}
use Rattle.bundle.specs.Layout.{Raw, bundle, fault}

-- an entry as a verifier reads it: a fault of the certificate is raised by where the certificate begins
abbrev pub seen : Judging → Raw → Seen
seen j r = record { message = r.message; certificate = map_err (raised r.place) (j.reads j.members r.certificate) }

abbrev pub decided : Judging → List ℕ → Result Parts BundleFault → Verdict
decided j m (Ok p) = cond (j.accepted (record { message = m }) p) Accepted Rejected
decided j m (Err f) = Faulty f

-- an entry is accepted, not accepted, or could not be read
abbrev pub verdict : Judging → Seen → Verdict
verdict j e = decided j e.message e.certificate

abbrev pub some_long : List Seen → Bool
some_long [] = false
some_long (e ∷ es) = nat_lt max_message (length e.message) || some_long es

-- how many verdicts, or why there are none: a long message, then too many entries, then too little room
abbrev pub counted : List Seen → ℕ → Result ℕ Refusal
counted es room =
    cond (some_long es) (Err (TooMany max_message))
    (cond (nat_lt max_certificates (length es)) (Err (TooMany max_certificates))
    (cond (nat_lt room (length es)) (Err (SmallBuffer (length es))) (Ok (length es))))

-- the listing begins with the verdicts and is untouched behind them, or altogether
pub record Judged (j : Judging) (es : List Seen) (before after : List Verdict) (r : Result ℕ Refusal) : Type 0 where
  pub answer : r ≡ counted es (length before)
  pub listing : after ≡ cond (is_ok r) (map (verdict j) es ++ drop (length es) before) before

-- what an input gives: too long, a fault of the bundle, too little room, or as many verdicts as entries
abbrev pub answered : Result (List Raw) BundleFault → ℕ → Result ℕ Refusal
answered (Err f) room = Err (refused f.kind f.layer f.place)
answered (Ok rs) room = cond (nat_lt room (length rs)) (Err (SmallBuffer (length rs))) (Ok (length rs))

abbrev pub admitted : List ℕ → Result (List Raw) BundleFault
admitted input = cond (nat_lt max_input (length input)) (Err (fault InvalidLength max_input)) (bundle input)

abbrev pub listed : Judging → Result (List Raw) BundleFault → List Verdict → List Verdict
listed j (Err f) before = before
listed j (Ok rs) before = map (λ r. verdict j (seen j r)) rs ++ drop (length rs) before

pub record Concluded (j : Judging) (input : List ℕ) (before after : List Verdict) (r : Result ℕ Refusal) : Type 0 where
  pub answer : r ≡ answered (admitted input) (length before)
  pub listing : after ≡ cond (is_ok r) (listed j (admitted input) before) before
