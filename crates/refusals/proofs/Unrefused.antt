-- What an answer that is not a refusal came from. Assumes nothing.
use Rattle.std.proofs.Common.{◌≡◌, ℕ, Bool, true, false, cond, Ok, Err, Result, refl, arith}
use Rattle.refusals.specs.Results.{map_ok}

-- two constructors are never the same: for `cc`
pub never : {A : Type 0} → ◌≡◌ {A = ℕ} 0 1 → A
never z = absurd (omega arith)

-- a test that would have refused was not met
pub past : {X E : Type 0} (t : Bool) (e : E) (r : Result X E) (x : X) → cond t (Err e) r ≡ Ok x → (t ≡ false) × (r ≡ Ok x)
past true e r x h = never (cc)
past false e r x h = (refl, h)

-- a test that was asked for was met
pub kept : {X E : Type 0} (t : Bool) (e : E) (r : Result X E) (x : X) → cond t r (Err e) ≡ Ok x → (t ≡ true) × (r ≡ Ok x)
kept true e r x h = (refl, h)
kept false e r x h = never (cc)

pub from_mapped : {X Y E : Type 0} (f : X → Y) (r : Result X E) (y : Y) → map_ok f r ≡ Ok y → (x : X) × (r ≡ Ok x) × (f x ≡ y)
from_mapped f (Ok x) y h = (x, refl, cc)
from_mapped f (Err e) y h = never (cc)
