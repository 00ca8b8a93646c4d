-- Which list certificates are accepted. Assumes nothing.
use Rattle.std.specs.Prelude.{ℕ, Bool, true, false, ◌&&◌, List, [], ◌∷◌, length, ◌==◌, nat_le, slice_index_or}
use Rattle.keys.specs.Meaning.{KeyMeaning}
use Rattle.keys.specs.Payload.{payload}
use Rattle.rolls.specs.Quorum.{quorum}
use Rattle.rolls.specs.declared.faults.Faults.{Faults}
use Rattle.schemes.specs.Judging.{Parts, Judging, named}
use Rattle.schemes.specs.Subjects.{Said}
use Rattle.list_scheme.specs.Reading.{read_list}

-- each member's signature of a payload is good
abbrev pub each_good : KeyMeaning → List (List ℕ) → List ℕ → List ℕ → List (List ℕ) → Bool
each_good m keys signed [] [] = true
each_good m keys signed [] (s ∷ ss) = false
each_good m keys signed (i ∷ is) [] = false
each_good m keys signed (i ∷ is) (s ∷ ss) = m.good (slice_index_or keys i []) signed s && each_good m keys signed is ss

-- its length is that of the roll, it has as many signatures as members, and these are a quorum
unfoldable pub list_fits : List (List ℕ) → Faults → Parts → Bool
list_fits keys faults p =
    (p.bitmap.len == length keys)
    && (length (named p) == length p.signatures && nat_le (quorum faults (length keys)) (length (named p)))

-- it fits, and each signature is good
unfoldable pub list_accepted : KeyMeaning → List (List ℕ) → Faults → List ℕ → Said → Parts → Bool
list_accepted m keys faults namespace t p = list_fits keys faults p && each_good m keys (payload namespace t.message) (named p) p.signatures

abbrev pub list_judging : KeyMeaning → List (List ℕ) → Faults → List ℕ → Judging
list_judging m keys faults namespace =
    record { members = length keys; accepted = list_accepted m keys faults namespace; reads = read_list m.width }
