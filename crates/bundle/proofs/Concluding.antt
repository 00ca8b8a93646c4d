-- Judging the entries of a bundle that was read is judging the input. Assumes nothing.
use Rattle.std.proofs.Common.{◌≡◌, ℕ, ◌≤◌, false, cond, ltb, List, [], ◌∷◌, ◌++◌, map, length, drop, is_ok, Ok, Err, Result, sym, refl, ap, ◌∙◌, arith}
use Rattle.std.specs.List.{AllByRecursion}
use Rattle.std.proofs.lemmas.List.{length-map}
use Rattle.std.proofs.lemmas.Bool.{le-ltb, or_from}
use Rattle.std.proofs.lemmas.Simd.{map-map}
use Rattle.refusals.specs.Limits.{max_message, max_certificates, max_input}
use Rattle.refusals.specs.declared.fault.FaultKind.TheVariants.{InvalidLength}
use Rattle.refusals.specs.declared.refusal.Refusal.{Refusal}
use Rattle.refusals.specs.declared.refusal.Refusal.TheVariants.{SmallBuffer}
use Rattle.schemes.specs.Judging.{Judging}
use Rattle.bundle.specs.Layout.{Raw, Short, bundle, fault}
use Rattle.bundle.specs.declared.verdict.Verdict.{Verdict}
use Rattle.bundle.specs.Verdicts.{seen, some_long, verdict, counted, Judged, answered, admitted, listed, Concluded}
use Rattle.bundle.proofs.Definitions.{bundle_limited}

short_seen : (j : Judging) (rs : List Raw) → AllByRecursion Short rs → some_long (map (seen j) rs) ≡ false
short_seen j [] h = refl
short_seen j (r ∷ rs) h = or_from (ltb max_message (length r.message)) (some_long (map (seen j) rs)) (le-ltb max_message (length r.message) h.0.0) (short_seen j rs h.1)

-- judging the entries of a bundle that was read is judging the input
pub concluded : (j : Judging) (input : List ℕ) (rs : List Raw) (before after : List Verdict) (r : Result ℕ Refusal)
    → length input ≤ max_input → bundle input ≡ Ok rs → Judged j (map (seen j) rs) before after r → Concluded j input before after r
concluded j input rs before after r h e d =
    let few = bundle_limited input rs e in
    let es = map (seen j) rs in
    let room = length before in
    let l : length es ≡ length rs = length-map rs (seen j) in
    let a : admitted input ≡ Ok rs = ap (λ t. cond t (Err (fault InvalidLength max_input)) (bundle input)) (le-ltb max_input (length input) h) ∙ e in
    let m : ltb max_certificates (length es) ≡ false = le-ltb max_certificates (length es) (let k = few.0 in omega arith) in
    let c : counted es room ≡ cond (ltb room (length es)) (Err (SmallBuffer (length es))) (Ok (length es)) = rw (short_seen j rs few.1, m) refl in
    record {
      answer = d.answer ∙ c ∙ ap (λ n. cond (ltb room n) (Err (SmallBuffer n)) (Ok n)) l ∙ ap (λ z. answered z room) (sym a);
      listing = d.listing ∙ ap (λ z. cond (is_ok r) z before)
          ((λ i. map-map (verdict j) (seen j) rs i ++ drop (l i) before) ∙ ap (λ z. listed j z before) (sym a));
    }
