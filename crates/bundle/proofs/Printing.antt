use Rattle.std.proofs.Common.{◌≡◌, ℕ, suc, ◌+◌, ◌<◌, min, Bool, true, false, cond, ltb, List, [], ◌∷◌, ◌++◌, map, length, get_or, take, drop, is_ok, Ok, Err, Result, sym, ap, ◌∙◌, ⊎_elim, append_assoc, add-zero, arith}
use Rattle.std.proofs.lemmas.List.{take_more, take_all, take_at, length-map, length-take-le}
use Rattle.std.proofs.lemmas.Bool.{cases_lt}
use Rattle.refusals.specs.declared.fault.BundleFault.{BundleFault}
use Rattle.refusals.specs.declared.refusal.Refusal.{Refusal}
use Rattle.refusals.specs.declared.refusal.Refusal.TheVariants.{SmallBuffer}
use Rattle.schemes.specs.Judging.{Judging}
use Rattle.bundle.specs.Layout.{Raw}
use Rattle.bundle.specs.Verdicts.{seen, verdict, answered, listed}
use Rattle.bundle.specs.Answer.{newline, lines_from, answer_text, printed}
use Rattle.bundle.specs.Text.{line_text, refused_text}
use Rattle.bundle.specs.declared.verdict.Verdict.{Verdict}

lines_push : (n : ℕ) (vs : List Verdict) (v : Verdict)
    → lines_from n (vs ++ v ∷ []) ≡ lines_from n vs ++ (line_text (n + length vs) v ++ newline)
lines_push n [] v = ap (λ k. line_text k v ++ newline) (sym (add-zero n))
lines_push n (x ∷ vs) v =
    let number : suc n + length vs ≡ n + length (x ∷ vs) = omega arith in
    let more = lines_push (suc n) vs v in
    simp (append_assoc, more, number)

-- one more line
pub lines_more : (vs : List Verdict) (i : ℕ) (d : Verdict) → i < length vs
    → lines_from 0 (take (i + 1) vs) ≡ lines_from 0 (take i vs) ++ (line_text i (get_or vs i d) ++ newline)
lines_more vs i d h =
    let size : 0 + length (take i vs) ≡ i = omega (arith, length-take-le i vs (omega arith)) in
    ap (lines_from 0) (take_more vs i d h) ∙ lines_push 0 (take i vs) (get_or vs i d)
    ∙ ap (λ k. lines_from 0 (take i vs) ++ (line_text k (get_or vs i d) ++ newline)) size

-- the first n, where the list may be shorter
pub answer_lines : (judged : Result ℕ Refusal) (vs : List Verdict) (n m : ℕ) → judged ≡ Ok n → m ≡ min n (length vs)
    → lines_from 0 (take m vs) ≡ answer_text judged vs
answer_lines judged vs n m e least =
    let front : take m vs ≡ take n vs =
    ⊎_elim (λ h. ap (λ k. take k vs) (omega arith)) (λ h. take_all m vs (omega arith) ∙ sym (take_all n vs (omega arith))) (cases_lt n (length vs)) in
    ap (lines_from 0) front ∙ ap (λ j. answer_text j vs) (sym e)

counted_text : (small : Bool) (n : ℕ) (vs before after : List Verdict) (r : Result ℕ Refusal) → length vs ≡ n
    → r ≡ cond small (Err (SmallBuffer n)) (Ok n) → after ≡ cond (is_ok r) (vs ++ drop n before) before
    → answer_text r after ≡ cond small (refused_text (SmallBuffer n) ++ newline) (lines_from 0 vs)
counted_text true n vs before after r size e listing = ap (λ x. answer_text x after) e
counted_text false n vs before after r size e listing = simp (e, listing, take_at vs (drop n before) n size)

pub concluded_text : (j : Judging) (read : Result (List Raw) BundleFault) (before after : List Verdict) (r : Result ℕ Refusal)
    → r ≡ answered read (length before) → after ≡ cond (is_ok r) (listed j read before) before
    → answer_text r after ≡ printed j (length before) read
concluded_text j (Err f) before after r e listing = ap (λ x. answer_text x after) e
concluded_text j (Ok rs) before after r e listing =
    counted_text (ltb (length before) (length rs)) (length rs) (map (λ x. verdict j (seen j x)) rs) before after r
    (length-map rs (λ x. verdict j (seen j x))) e listing
