-- An entry of a bundle as a verifier reads it. Assumes nothing.
use Rattle.std.proofs.Common.{◌≡◌, ℕ, ◌<◌, ◌≤◌, List, [], map, length, get_or, Some, None, Option, MatchOption, subst, sym, ap, ◌∙◌, arith}
use Rattle.std.proofs.lemmas.List.{length-map, get_or-map}
use Rattle.std.specs.Option.{option_map}
use Rattle.schemes.specs.Judging.{Judging, Seen, At, MessageAt}
use Rattle.bundle.specs.declared.held.RawEntry.{RawEntry}
use Rattle.bundle.specs.Layout.{Raw}
use Rattle.bundle.specs.Raws.{raw_of}
use Rattle.bundle.specs.Verdicts.{seen}

-- what a bundle says of a place
abbrev pub Kept : List Raw → ℕ → Option RawEntry → Type 0
Kept rs i o = MatchOption o (length rs ≤ i) (λ e. (i < length rs) × ((d : Raw) → get_or rs i d ≡ raw_of e))

no_entry : Raw
no_entry = record { message = []; place = 0; certificate = [] }

pub seen_at : (j : Judging) (rs : List Raw) (i : ℕ) (o : Option RawEntry) → Kept rs i o → At (map (seen j) rs) i (option_map (λ e. seen j (raw_of e)) o)
seen_at j rs i None h = let l = length-map rs (seen j) in omega arith
seen_at j rs i (Some e) h =
    let l = length-map rs (seen j) in
    let k = h.0 in
    (omega arith, λ d. get_or-map (seen j) rs i no_entry d k ∙ ap (seen j) (h.1 no_entry))

pub message_at : (j : Judging) (rs : List Raw) (i : ℕ) (o : Option RawEntry) (r : Option (List ℕ)) → Kept rs i o → r ≡ option_map (λ e. e.message.now) o → MessageAt (map (seen j) rs) i r
message_at j rs i None r h e = subst (MessageAt (map (seen j) rs) i) (sym e) (seen_at j rs i None h)
message_at j rs i (Some x) r h e =
    let s = seen_at j rs i (Some x) h in
    subst (MessageAt (map (seen j) rs) i) (sym e) (s.0, λ d. ap (λ (z : Seen). z.message) (s.1 d))
