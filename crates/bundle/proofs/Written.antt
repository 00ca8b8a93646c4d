-- What is written as a bundle is read again. Assumes nothing.
use Rattle.std.proofs.Common.{◌≡◌, ℕ, ◌+◌, ◌≤◌, List, [], ◌∷◌, ◌++◌, map, length, drop, Ok, Err, Result, sym, refl, ap, ◌∙◌, arith}
use Rattle.std.specs.List.{AllByRecursion}
use Rattle.std.proofs.lemmas.List.{length-append, take_at}
use Rattle.refusals.specs.Limits.{max_message}
use Rattle.refusals.specs.Results.{map_ok}
use Rattle.refusals.specs.declared.fault.BundleFault.{BundleFault}
use Rattle.bundle.specs.Layout.{Raw, Pair, pair_of, max_prefix, field, entry, entries, bundle, following, size, field_written, entries_written, bundle_written, Short, Limited}
use Rattle.bundle.proofs.Fields.{whole_behind, entry_whole}
use Rattle.bundle.proofs.Reading.{bundle_behind, behind}

field_again : (limit at : ℕ) (bs rest : List ℕ) → length bs ≤ limit → length bs ≤ max_prefix → Ok bs ≡ field limit at (field_written bs ++ rest)
field_again limit at bs rest h k =
    let l = length-append bs rest in
    sym (whole_behind limit at (length bs) (field_written bs ++ rest) (bs ++ rest) refl h k (omega arith) ∙ ap Ok (take_at bs rest (length bs) refl))

-- an entry that begins at a place
abbrev placed : ℕ → Raw → Raw
placed at r = record { message = r.message; place = at + 2 + length r.message + 2; certificate = r.certificate }

entry_again : (at : ℕ) (r : Raw) (rest : List ℕ) → Short r
    → Ok (placed at r) ≡ entry at (field_written r.message ++ (field_written r.certificate ++ rest))
entry_again at r rest s =
    let m = r.message in
    let c = r.certificate in
    let a = s.0 in
    entry_whole at (at + 2 + length m) (at + 2 + length m + 2) _ m (field_written c ++ rest) c (field_again max_message at m (field_written c ++ rest) a (omega arith)) refl refl
    (field_again max_prefix (at + 2 + length m) c rest s.1 s.1) refl

one_more : (r : Raw) (x : Result (List Raw) BundleFault) (ps : List Pair) → map_ok (map pair_of) x ≡ Ok ps
    → map_ok (map pair_of) (map_ok (λ rs. r ∷ rs) x) ≡ Ok (pair_of r ∷ ps)
one_more r (Ok rs) ps h = let e : map pair_of rs ≡ ps = cc in ap (λ z. Ok (pair_of r ∷ z)) e
one_more r (Err f) ps h = cc

entries_again : (at : ℕ) (rs : List Raw) → AllByRecursion Short rs → map_ok (map pair_of) (entries (length rs) at (entries_written rs)) ≡ Ok (map pair_of rs)
entries_again at [] s = refl
entries_again at (r ∷ rs) s =
    let p = placed at r in
    let k = length rs in
    ap (λ e. map_ok (map pair_of) (following e (λ z. entries k (at + size z) (drop (size z) (entries_written (r ∷ rs)))))) (sym (entry_again at r (entries_written rs) s.0))
    ∙ ap (λ z. map_ok (map pair_of) (map_ok (λ zs. p ∷ zs) (entries k (at + size p) z))) (behind p (entries_written rs))
    ∙ one_more p (entries k (at + size p) (entries_written rs)) (map pair_of rs) (entries_again (at + size p) rs s.1)

-- where x is what the bytes give
pub reads_back : (bs : List ℕ) (x : Result (List Raw) BundleFault) → x ≡ bundle bs
    → (rs : List Raw) → Limited rs → bs ≡ bundle_written rs → map_ok (map pair_of) x ≡ Ok (map pair_of rs)
reads_back bs x e rs l w =
    ap (map_ok (map pair_of)) (e ∙ ap bundle w ∙ bundle_behind (length rs) (entries_written rs) l.0) ∙ entries_again 2 rs l.1
