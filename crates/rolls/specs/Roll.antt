-- The bytes of the keys of a roll. Assumes nothing.
use Rattle.std.specs.Prelude.{ℕ, List, map}
use Rattle.buffers.specs.Items.{items}
use Rattle.keys.specs.declared.check.KeyCheck.{Ghosts}
use Rattle.rolls.specs.declared.roll.Member.{Member}
use Rattle.rolls.specs.declared.roll.Roll.{Roll}

-- of a list of raw members
abbrev pub raw_keys : List Member → List (List ℕ)
raw_keys ms = map (λ m. m.key.now) ms

-- of a roll
abbrev pub keys_of : {K : Type 0} {C : Ghosts K} → (K → List ℕ) → Roll K C → List (List ℕ)
keys_of key r = map key (items r.keys)
