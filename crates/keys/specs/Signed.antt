-- The bytes of a signature. Assumes nothing.
use Rattle.std.specs.Prelude.{ℕ, cond, List, [], length, nat_le}
use Rattle.buffers.specs.Items.{items}
use Rattle.refusals.specs.Limits.{max_signature}
use Rattle.keys.specs.declared.signature.Signature.{Signature}

-- no bytes where there are more than any signature has: no key check decodes none
abbrev pub within : List ℕ → List ℕ
within bytes = cond (nat_le (length bytes) max_signature) bytes []

abbrev pub signed : Signature → List ℕ
signed s = items s.bytes
