-- The items of a bounded list. Assumes nothing.
use Rattle.std.specs.Prelude.{ℕ, List, take}
use Rattle.buffers.specs.declared.table.Bounded.{Bounded}

abbrev pub items : {T : Type 0} {N : ℕ} → Bounded T N → List T
items b = take b.len b.table
