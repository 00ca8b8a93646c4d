use Rattle.std.proofs.Common.{◌≡◌, ℕ, List, Some}
use Rattle.std.proofs.lemmas.Iterator.{YieldsList}
use Rattle.std.specs.Str.Iter.{split_steps}
use Rattle.std.specs.Str.Pattern.{FindsChar}
use Rattle.buffers.specs.Items.{items}
use Rattle.table.specs.Words.{beside, all_bytes, text_bytes}
use Rattle.table.proofs.words.put_words.Given as goal

abbrev pub invariant-loop-word : goal.invariant-loop-word
invariant-loop-word g l =
    (left : List (List ℕ)) × YieldsList (split_steps FindsChar (λ a b. b ≡ a)) (λ word. word.now) l.word-iterator left
    × (beside (Some (items l.line)) (all_bytes left) ≡ beside (Some (items l.initial.line)) (text_bytes l.text))
