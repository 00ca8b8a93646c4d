-- Roll W is never refused. Assumes nothing.
use Rattle.std.proofs.Common.{◌≡◌, ℕ, zero, suc, ◌<◌, false, arith}
use Rattle.std.proofs.lemmas.Bool.{true≢false}
use Rattle.keys.specs.Residue.{is_residue_key}
use Rattle.rolls.specs.Enrolled.{fine, Refused, none, many, first_bad}
use Rattle.roll_w.specs.Keys.{keys_of_w}

each : (i : ℕ) → i < 4 → fine is_residue_key keys_of_w i ≡ false → ⊥
each zero h e = true≢false e
each (suc zero) h e = true≢false e
each (suc (suc zero)) h e = true≢false e
each (suc (suc (suc zero))) h e = true≢false e
each (suc (suc (suc (suc i)))) h e = omega arith

pub unrefused : (index : ℕ) → Refused is_residue_key keys_of_w index → ⊥
unrefused index (none e q) = omega arith
unrefused index (many h q) = omega arith
unrefused index (first_bad s f h b e) = each index h e
