-- Reading signatures one by one. Assumes nothing.
use Rattle.std.proofs.Common.{◌≡◌, ℕ, suc, ◌+◌, ◌-◌, ◌*◌, ◌<◌, ◌≤◌, List, [], ◌∷◌, ◌++◌, length, take, drop, Ok, Err, sym, refl, ap, ◌∙◌, add-mul, one-mul, arith}
use Rattle.std.proofs.lemmas.List.{drop-drop, length-append, append-nil}
use Rattle.std.proofs.lemmas.Bool.{lt-ltb, le-ltb}
use Rattle.refusals.proofs.Prepending.{more_ok}
use Rattle.refusals.specs.Results.{map_ok}
use Rattle.refusals.specs.declared.fault.FaultKind.TheVariants.{EndOfBuffer}
use Rattle.refusals.specs.declared.fault.Layer.TheVariants.{Signatures}
use Rattle.list_scheme.specs.Reading.{fault, signatures}

-- i of so many signatures were read: they before what the rest gives are what the whole gives
pub record Ongoing (width count start : ℕ) (bs : List ℕ) (i at : ℕ) (rest : List ℕ) (ss : List (List ℕ)) : Type 0 where
  pub taken : length ss ≡ i
  pub left : rest ≡ drop (i * width) bs
  pub place : at ≡ start + i * width
  pub whole : map_ok (λ rs. ss ++ rs) (signatures width (count - i) at rest) ≡ signatures width count start bs

one_more : (i width : ℕ) → (i + 1) * width ≡ i * width + width
one_more i width = add-mul i 1 width ∙ ap (λ n. i * width + n) (one-mul width)

module _ (width count start : ℕ) (bs : List ℕ) where
  module _ (i at : ℕ) (rest : List ℕ) (ss : List (List ℕ)) (o : Ongoing width count start bs i at rest ss) where
    pub ongoing_more : (at' : ℕ) (rest' : List ℕ) (ss' : List (List ℕ)) → i < count → width ≤ length rest → at' ≡ at + width → rest' ≡ drop width rest → ss' ≡ ss ++ take width rest ∷ []
        → Ongoing width count start bs (i + 1) at' rest' ss'
    ongoing_more at' rest' ss' h k ea er es =
        let n : count - i ≡ suc (count - (i + 1)) = omega arith in
        let m = one_more i width in
        let u : signatures width (count - i) at rest ≡ map_ok (λ rs. take width rest ∷ rs) (signatures width (count - (i + 1)) (at + width) (drop width rest)) =
        ap (λ z. signatures width z at rest) n ∙ rw (le-ltb (length rest) width k) refl in
        record {
          taken = ap length es ∙ length-append ss (take width rest ∷ []) ∙ ap (λ z. z + 1) o.taken;
          left = er ∙ ap (drop width) o.left ∙ drop-drop width (i * width) bs ∙ ap (λ z. drop z bs) (sym m);
          place = omega (arith, o.place);
          whole =
              (λ j. map_ok (λ rs. es j ++ rs) (signatures width (count - (i + 1)) (ea j) (er j)))
              ∙ sym (more_ok ss (take width rest) (signatures width (count - (i + 1)) (at + width) (drop width rest)))
              ∙ ap (map_ok (λ rs. ss ++ rs)) (sym u) ∙ o.whole;
        }

    pub ongoing_short : i < count → length rest < width → Err (fault EndOfBuffer Signatures at) ≡ signatures width count start bs
    ongoing_short h k =
        let n : count - i ≡ suc (count - (i + 1)) = omega arith in
        sym (ap (λ z. map_ok (λ rs. ss ++ rs) (signatures width z at rest)) n ∙ rw (lt-ltb (length rest) width k) refl) ∙ o.whole

    pub ongoing_all : i ≡ count → Ok ss ≡ signatures width count start bs
    ongoing_all e =
        let z : count - i ≡ 0 = omega arith in
        ap Ok (sym (append-nil ss)) ∙ sym (ap (λ n. map_ok (λ rs. ss ++ rs) (signatures width n at rest)) z) ∙ o.whole
