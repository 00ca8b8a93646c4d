-- Signatures beside members. Assumes nothing.
use Rattle.std.proofs.Common.{◌≡◌, ℕ, suc, ◌+◌, ◌≤◌, Bool, true, false, cond, ◌&&◌, List, [], ◌∷◌, ◌++◌, length, map, filter, get_or, drop, sym, refl, ap, ◌∙◌, inl, inr, add-zero, add-one, arith}
use Rattle.std.proofs.lemmas.List.{append-nil, append_assoc, length-map, drop-drop, get_or-drop}
use Rattle.std.proofs.lemmas.Grind.{common_steps}
use Rattle.std.specs.List.{list_all, zip, enumerate_from}
use Rattle.refusals.specs.Limits.{max_message, max_payload}
use Rattle.refusals.specs.declared.refusal.Refusal.{Refusal}
use Rattle.keys.proofs.Payloads.{length-payload}
use Rattle.keys.proofs.Varints.{length-varint-short}
use Rattle.keys.specs.Payload.{PayloadRefused}
use Rattle.keys.specs.Meaning.{KeyMeaning}
use Rattle.keys.specs.Signed.{signed}
use Rattle.keys.specs.declared.signature.Signature.{Signature}
use Rattle.rolls.specs.Bitmap.{has, members_below}
use Rattle.rolls.specs.declared.faults.Faults.{Faults}
use Rattle.schemes.specs.Judging.{Parts, named}
use Rattle.list_scheme.specs.Accepted.{each_good, list_fits}

module _ {K : Type 0} (m : KeyMeaning) (key : K → List ℕ) (payload : List ℕ) (bits : ℕ) where
  -- whether a member's signature is good
  abbrev pub Fine : (ℕ × K) × Signature → Bool
  Fine p = m.good (key p.0.1) payload (signed p.1)

  -- those of some members, counted from a place on, whose bits are set
  abbrev pub among_keys : ℕ → List K → List (ℕ × K)
  among_keys i ks = filter (λ x. has bits x.0) (enumerate_from i ks)

  members_are : (i : ℕ) (ks : List K) → members_below (i + length ks) bits ≡ members_below i bits ++ map (λ x. x.0) (among_keys i ks)
  members_are i [] = ap (λ n. members_below n bits) (add-zero i) ∙ sym (append-nil (members_below i bits))
  members_are i (k ∷ ks) =
      let n : i + suc (length ks) ≡ i + 1 + length ks = omega arith in
      ap (λ n. members_below n bits) n ∙ members_are (i + 1) ks
      ∙ ap (λ n. members_below n bits ++ map (λ x. x.0) (among_keys (i + 1) ks)) (add-one i)
      ∙ append_assoc (members_below i bits) (cond (has bits i) (i ∷ []) []) (map (λ x. x.0) (among_keys (i + 1) ks))
      ∙ ap (λ xs. members_below i bits ++ xs) (one (has bits i))
    where
      one : (t : Bool) → cond t (i ∷ []) [] ++ map (λ x. x.0) (among_keys (i + 1) ks) ≡ map (λ x. x.0) (cond t ((i, k) ∷ among_keys (i + 1) ks) (among_keys (i + 1) ks))
      one true = refl
      one false = refl

  module _ (keys : List (List ℕ)) where
    good_from : (i : ℕ) (ks : List K) (ss : List Signature) → drop i keys ≡ map key ks → length ss ≡ length (among_keys i ks)
        → list_all Fine (zip (among_keys i ks) ss) ≡ each_good m keys payload (map (λ x. x.0) (among_keys i ks)) (map signed ss)
    good_from i [] [] e l = refl
    good_from i [] (s ∷ ss) e l = absurd (omega arith)
    good_from i (k ∷ ks) ss e l =
        let at : get_or keys i [] ≡ key k = ap (λ n. get_or keys n []) (sym (add-zero i)) ∙ sym (get_or-drop i keys 0 []) ∙ ap (λ xs. get_or xs 0 []) e in
        let on : drop (i + 1) keys ≡ map key ks = sym (drop-drop 1 i keys) ∙ ap (drop 1) e in
        one at (λ ss. good_from (i + 1) ks ss on) (has bits i) ss l
      where
        one : get_or keys i [] ≡ key k
            → ((ss : List Signature) → length ss ≡ length (among_keys (i + 1) ks) → list_all Fine (zip (among_keys (i + 1) ks) ss) ≡ each_good m keys payload (map (λ x. x.0) (among_keys (i + 1) ks)) (map signed ss))
            → (t : Bool) (ss : List Signature) → length ss ≡ length (cond t ((i, k) ∷ among_keys (i + 1) ks) (among_keys (i + 1) ks))
            → list_all Fine (zip (cond t ((i, k) ∷ among_keys (i + 1) ks) (among_keys (i + 1) ks)) ss)
            ≡ each_good m keys payload (map (λ x. x.0) (cond t ((i, k) ∷ among_keys (i + 1) ks) (among_keys (i + 1) ks))) (map signed ss)
        one at rest true [] l = absurd (omega arith)
        one at rest true (s ∷ ss) l = λ j. m.good (sym at j) payload (signed s) && rest ss (omega arith) j
        one at rest false ss l = rest ss l

    -- the members whose bits are set, each beside its signature
    pub good_all : (n : ℕ) (ks : List K) (ss : List Signature) → map key ks ≡ keys → n ≡ length keys → length (members_below n bits) ≡ length (map signed ss)
        → list_all Fine (zip (among_keys 0 ks) ss) ≡ each_good m keys payload (members_below n bits) (map signed ss)
    good_all n ks ss q h l =
        let k : n ≡ 0 + length ks = omega (arith, h ∙ ap length (sym q) ∙ length-map ks key) in
        let e : members_below n bits ≡ map (λ x. x.0) (among_keys 0 ks) = ap (λ n. members_below n bits) k ∙ members_are 0 ks in
        good_from 0 ks ss (sym q) (sym (length-map ss signed) ∙ sym l ∙ ap length e ∙ length-map (among_keys 0 ks) (λ x. x.0))
        ∙ ap (λ is. each_good m keys payload is (map signed ss)) (sym e)

-- what a certificate that fits is
pub fits_parts : (keys : List (List ℕ)) (faults : Faults) (p : Parts) → list_fits keys faults p ≡ true → (p.bitmap.len ≡ length keys) × (length (named p) ≡ length p.signatures)
unfolding list_fits
fits_parts keys faults p h = grind (arith, common_steps)

-- a payload within the limits has room
pub payload_fits : (namespace message out : List ℕ) (e : Refusal) → length namespace ≤ 66 → length message ≤ max_message → length out ≡ max_payload → PayloadRefused namespace message out e → ⊥
payload_fits namespace message out e h k l (inl q) = let a = q.1 in omega arith
payload_fits namespace message out e h k l (inr q) =
    let a = q.2 in
    let b = length-payload namespace message in
    let c = length-varint-short (length namespace) (omega arith) in
    omega arith
