use Rattle.std.proofs.Common.{◌≡◌, List, ◌∷◌, [], Some, None, Option, sym, refl, ap, ◌∙◌, append-nil, lit<}
use Rattle.std.proofs.lemmas.Iterator.{YieldsList}
use Rattle.std.proofs.lemmas.Iterator.Consumers.{YieldsList-at}
use Rattle.std.proofs.lemmas.Iterator.Splits.{YieldsList-from_str_split}
use Rattle.buffers.specs.Items.{items}
use Rattle.table.specs.Words.{beside, split_at, all_bytes}
use Rattle.table.proofs.Laws.{more_bytes, too_many}
use Rattle.table.proofs.words.put_words.Goals as goal

-- what a step takes is the first of those that come
next : {S A B : Type 0} (steps : S → Option A → S → Type 0) (v : A → B) (s t : S) (x : A) (left : List B) → YieldsList steps v s left → steps s (Some x) t
    → (rest : List B) × (left ≡ v x ∷ rest) × YieldsList steps v t rest
next steps v s t x [] h k = absurd (h.runs x t k)
next steps v s t x (y ∷ rest) h k = let step = h.runs.1 x t k in (rest, ap (λ z. z ∷ rest) (sym step.0), record { runs = step.1 })

-- where none comes, none is left
ended : {S A B : Type 0} (steps : S → Option A → S → Type 0) (v : A → B) (s t : S) (left : List B) → YieldsList steps v s left → steps s None t → left ≡ []
ended steps v s t [] h k = refl
ended steps v s t (y ∷ rest) h k = absurd (h.runs.0 t k)

pub loop-word-init : goal.loop-word-init
loop-word-init g c =
    let made = c.split-word-items.ensures in
    let words = YieldsList-from_str_split 32 c.args.text.now (lit< tt) made.text made.has_more made.pattern in
    (split_at 32 c.args.text.now, YieldsList-at c.into_iter-word-iterator.ensures.into_iter_gives words, refl)

pub loop-word-preserved : goal.loop-word-preserved
loop-word-preserved g c =
    let n = next _ _ c.loop-word.word-iterator c.next.new.self c.in-Some.word _ c.loop-word.invariant.1 c.in-Some.ensures.steps in
    (n.0, n.2, more_bytes _ _ _ _ _ _ n.1 c.in_ok-put_word.ensures c.loop-word.invariant.2)

pub returns-in_err-put_word : goal.returns-in_err-put_word
returns-in_err-put_word g c =
    let n = next _ _ c.loop-word.word-iterator c.next.new.self c.in-Some.word _ c.loop-word.invariant.1 c.in-Some.ensures.steps in
    rw c.from_residual.ensures (too_many _ _ _ _ _ _ n.1 c.in_err-put_word.ensures c.loop-word.invariant.2)

pub returns : goal.returns
returns g c =
    let e = ended _ _ _ _ _ c.loop-word.invariant.1 c.in-None.ensures.steps in
    sym c.loop-word.invariant.2 ∙ ap (λ words. beside (Some (items c.loop-word.line)) (all_bytes words)) e ∙ ap Some (append-nil (items c.loop-word.line))
