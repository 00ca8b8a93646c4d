-- The text of all that a program prints for an input. Assumes nothing.
use Rattle.std.specs.Prelude.{ℕ, suc, cond, List, [], ◌∷◌, ◌++◌, map, length, take, Ok, Err, Result, nat_lt}
use Rattle.refusals.specs.Numbers.{refused}
use Rattle.refusals.specs.declared.fault.BundleFault.{BundleFault}
use Rattle.refusals.specs.declared.refusal.Refusal.{Refusal}
use Rattle.refusals.specs.declared.refusal.Refusal.TheVariants.{SmallBuffer}
use Rattle.schemes.specs.Judging.{Judging}
use Rattle.bundle.specs.Layout.{Raw}
use Rattle.bundle.specs.Verdicts.{seen, verdict}
use Rattle.bundle.specs.Text.{line_text, refused_text}
use Rattle.bundle.specs.declared.verdict.Verdict.{Verdict}

abbrev pub newline : List ℕ
newline = 10 ∷ []

-- a line for each verdict, numbered from n on
abbrev pub lines_from : ℕ → List Verdict → List ℕ
lines_from n [] = []
lines_from n (v ∷ vs) = line_text n v ++ (newline ++ lines_from (suc n) vs)

-- the lines of the first verdicts, or the line of a refusal
abbrev pub answer_text : Result ℕ Refusal → List Verdict → List ℕ
answer_text (Ok count) vs = lines_from 0 (take count vs)
answer_text (Err r) vs = refused_text r ++ newline

-- what is printed for an input as it was admitted, with room for so many verdicts
abbrev pub printed : Judging → ℕ → Result (List Raw) BundleFault → List ℕ
printed j room (Err f) = refused_text (refused f.kind f.layer f.place) ++ newline
printed j room (Ok rs) =
    cond (nat_lt room (length rs)) (refused_text (SmallBuffer (length rs)) ++ newline)
    (lines_from 0 (map (λ r. verdict j (seen j r)) rs))
