-- What an entry of a batch says. Assumes nothing.
use Rattle.std.specs.Prelude.{ℕ, List}
use Rattle.keys.specs.Meaning.{Entry}
use Rattle.keys.specs.declared.batch.BatchEntry.{BatchEntry}

-- over the bytes of a key
abbrev pub entry_of : {K : Type 0} → (K → List ℕ) → BatchEntry K → Entry
entry_of key e = record { key = key e.key; payload = e.payload.now; signature = e.signature.now }
