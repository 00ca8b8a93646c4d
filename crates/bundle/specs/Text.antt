-- The text of verdicts and refusals. Assumes nothing.
use Rattle.std.specs.Prelude.{ℕ, List, [], ◌∷◌, ◌++◌, codes, decimal}
use Rattle.refusals.specs.Numbers.{number, values, kind_number, layer_number}
use Rattle.refusals.specs.declared.refusal.Refusal.{Refusal}
use Rattle.bundle.specs.declared.verdict.Verdict.{Verdict}
use Rattle.bundle.specs.declared.verdict.Verdict.TheVariants.{Accepted, Rejected, Faulty}

-- a space, then a number
abbrev pub spaced : ℕ → List ℕ
spaced n = codes " " ++ decimal n

abbrev pub all_spaced : List ℕ → List ℕ
all_spaced [] = []
all_spaced (n ∷ ns) = spaced n ++ all_spaced ns

abbrev pub verdict_text : Verdict → List ℕ
verdict_text Accepted = codes " true"
verdict_text Rejected = codes " false"
verdict_text (Faulty f) = codes " false" ++ all_spaced (kind_number f.kind ∷ layer_number f.layer ∷ f.place ∷ [])

-- the number of an entry, its verdict, and the three numbers of a fault
abbrev pub line_text : ℕ → Verdict → List ℕ
line_text n v = decimal n ++ verdict_text v

-- the number of a refusal and its values
abbrev pub refused_text : Refusal → List ℕ
refused_text r = codes "refused" ++ all_spaced (number r ∷ values r)
