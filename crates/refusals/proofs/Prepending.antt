-- What was read so far, before what the rest gives. Assumes nothing.
use Rattle.std.proofs.Common.{◌≡◌, List, [], ◌∷◌, ◌++◌, Ok, Err, Result, sym, refl, ap}
use Rattle.std.proofs.lemmas.List.{append_assoc}
use Rattle.refusals.specs.Results.{map_ok}

pub all_ok : {X E : Type 0} (r : Result (List X) E) → map_ok (λ rs. [] ++ rs) r ≡ r
all_ok (Ok rs) = refl
all_ok (Err e) = refl

pub more_ok : {X E : Type 0} (xs : List X) (x : X) (r : Result (List X) E) → map_ok (λ rs. xs ++ rs) (map_ok (λ rs. x ∷ rs) r) ≡ map_ok (λ rs. (xs ++ x ∷ []) ++ rs) r
more_ok xs x (Ok rs) = ap Ok (sym (append_assoc xs (x ∷ []) rs))
more_ok xs x (Err e) = refl
