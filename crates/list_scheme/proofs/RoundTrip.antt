-- A list certificate is read just where it was written. Assumes nothing.
use Rattle.std.proofs.Common.{◌≡◌, ℕ, zero, suc, ◌+◌, ◌*◌, ◌≤◌, min, eqb, ltb, ◌≢◌, List, [], ◌∷◌, ◌++◌, length, take, drop, IfOk, Ok, Err, Result, sym, refl, ap, ◌∙◌, subst, zero-mul, arith}
use Rattle.std.proofs.lemmas.List.{append_assoc, append-nil, length-append, length-drop, length-take-le, take-append-drop, take_at, drop_at, drop-drop, drop_all}
use Rattle.std.proofs.lemmas.Bool.{le-ltb, eq-eqb, ltb-false, eqb-true, eqb-false}
use Rattle.std.specs.List.{AllByRecursion, concat}
use Rattle.refusals.specs.Limits.{max_members}
use Rattle.refusals.specs.Results.{map_ok}
use Rattle.refusals.specs.declared.fault.BitmapFault.{BitmapFault}
use Rattle.refusals.specs.declared.fault.CertificateFault.{CertificateFault}
use Rattle.refusals.proofs.Unrefused.{never, past, kept, from_mapped}
use Rattle.keys.proofs.Octets.{Octets}
use Rattle.keys.specs.Varint.{varint, read_varint}
use Rattle.keys.specs.declared.varint.Varint.{Varint}
use Rattle.keys.specs.declared.varint.VarintFault.{VarintFault}
use Rattle.keys.proofs.VarintReads.{Shortest, reads_shortest}
use Rattle.keys.proofs.VarintReads as varints
use Rattle.rolls.specs.Bitmap.{Bitmap, members, bitmap_written, read_bitmap}
use Rattle.rolls.specs.Signers.{written_size}
use Rattle.rolls.proofs.MemberLaws.{count_le}
use Rattle.rolls.proofs.Readings.{read_from, read_written}
use Rattle.rolls.proofs.Readings as bitmaps
use Rattle.rolls.proofs.Writings.{length-written}
use Rattle.schemes.specs.Judging.{Parts}
use Rattle.list_scheme.specs.declared.certificate.ListCertificate.{ListCertificate}
use Rattle.list_scheme.specs.Certificate.{parts}
use Rattle.list_scheme.specs.Reading.{signatures, finished, listed, signed_by, read_list}
use Rattle.list_scheme.specs.Writing.{list_written, Readable}
use Rattle.list_scheme.proofs.FieldByField.{reads_signatures}

-- signatures in a row are read one by one
joined_back : (width : ℕ) (ss : List (List ℕ)) (at : ℕ) → AllByRecursion (λ s. length s ≡ width) ss → signatures width (length ss) at (concat ss) ≡ Ok ss
joined_back width [] at w = refl
joined_back width (s ∷ ss) at w =
    let long : width ≤ length (s ++ concat ss) = simp length-append (omega (arith, w.0)) in
    rw (le-ltb (length (s ++ concat ss)) width long, take_at s (concat ss) width w.0, drop_at s (concat ss) width w.0, joined_back width ss (at + width) w.1) refl

-- and what was read stood in a row
record Row (width k : ℕ) (bs : List ℕ) (ss : List (List ℕ)) : Type 0 where
  pub count : length ss ≡ k
  pub stands : concat ss ++ drop (k * width) bs ≡ bs
  pub wide : AllByRecursion (λ s. length s ≡ width) ss

row : (width k at : ℕ) (bs : List ℕ) (ss : List (List ℕ)) → signatures width k at bs ≡ Ok ss → Row width k bs ss
row width zero at bs ss h =
    let none : ◌≡◌ {A = List (List ℕ)} [] ss = cc in
    subst (Row width zero bs) none (record { count = refl; stands = ap (λ n. drop n bs) (zero-mul width); wide = tt })
row width (suc k) at bs ss h =
    let long = past (ltb (length bs) width) _ _ ss h in
    let more = from_mapped (λ zs. take width bs ∷ zs) _ ss long.1 in
    let rest = row width k (at + width) (drop width bs) more.0 more.1 in
    subst (Row width (suc k) bs) more.2 (one_more more.0 (ltb-false (length bs) width long.0) rest)
  where
    one_more : (zs : List (List ℕ)) → width ≤ length bs → Row width k (drop width bs) zs → Row width (suc k) bs (take width bs ∷ zs)
    one_more zs long rest =
        let on : suc k * width ≡ width + k * width = omega arith in
        let behind = ap (λ n. drop n bs) on ∙ sym (drop-drop (k * width) width bs) in
        record {
          count = ap suc rest.count;
          stands =
              append_assoc (take width bs) (concat zs) (drop (suc k * width) bs)
              ∙ ap (λ t. take width bs ++ (concat zs ++ t)) behind ∙ ap (λ t. take width bs ++ t) rest.stands ∙ take-append-drop width bs;
          wide = (length-take-le width bs long, rest.wide);
        }

-- as many signatures are read as were asked for
pub signatures-length : (width k at : ℕ) (bs : List ℕ) (ss : List (List ℕ)) → signatures width k at bs ≡ Ok ss → length ss ≡ k
signatures-length width k at bs ss h = (row width k at bs ss h).count

-- what is read was written, and can be read
module _ (width bound : ℕ) (bs : List ℕ) (octets : Octets bs) where
  abbrev pub Canonical : Parts → Type 0
  Canonical p = Readable width bound p × (bs ≡ list_written p)

  module _ (b : Bitmap) (eb : read_bitmap bound bs ≡ Ok b) (some : length (members b) ≢ 0) where
    module _ (v : Varint) (ev : read_varint (drop (written_size b) bs) ≡ Ok v) where
      all_read : (ss : List (List ℕ)) → signatures width v.value (written_size b + v.size) (drop (written_size b + v.size) bs) ≡ Ok ss
          → length (members b) ≡ length ss → length bs ≤ written_size b + v.size + v.value * width → Canonical (record { bitmap = b; signatures = ss })
      unfolding list_written
      all_read ss es paired total =
          let r = read_from bound bs b eb in
          let short = subst (Shortest (drop (written_size b) bs)) ev (reads_shortest (drop (written_size b) bs)) in
          let stood = row width v.value (written_size b + v.size) (drop (written_size b + v.size) bs) ss es in
          let long = length-drop (written_size b + v.size) bs in
          let none : drop (v.value * width) (drop (written_size b + v.size) bs) ≡ [] = drop_all (v.value * width) (drop (written_size b + v.size) bs) (omega arith) in
          let last : drop (written_size b + v.size) bs ≡ concat ss = sym stood.stands ∙ ap (λ t. concat ss ++ t) none ∙ append-nil (concat ss) in
          let counted : take v.size (drop (written_size b) bs) ≡ varint (length ss) = short.0 ∙ ap varint (sym stood.count) in
          let left : drop v.size (drop (written_size b) bs) ≡ concat ss = drop-drop v.size (written_size b) bs ∙ last in
          let middle : drop (written_size b) bs ≡ varint (length ss) ++ concat ss = sym (take-append-drop v.size (drop (written_size b) bs)) ∙ (λ i. counted i ++ left i) in
          let front = read_written bound bs b octets eb in (
            record { within = r.few; below = r.fits; somebody = omega arith; paired = sym paired; wide = stood.wide },
            sym (take-append-drop (written_size b) bs) ∙ (λ i. front i ++ middle i),
          )

      at_signatures : (p : Parts) (r : Result (List (List ℕ)) CertificateFault) → signatures width v.value (written_size b + v.size) (drop (written_size b + v.size) bs) ≡ r
          → finished b (written_size b) (written_size b + v.size + v.value * width) (length bs) r ≡ Ok p → Canonical p
      at_signatures p (Err f) es h = never (cc)
      at_signatures p (Ok ss) es h =
          let same = kept (eqb (length (members b)) (length ss)) _ _ p h in
          let all = past (ltb (written_size b + v.size + v.value * width) (length bs)) _ _ p same.1 in
          let is : ◌≡◌ {A = Parts} (record { bitmap = b; signatures = ss }) p = cc in
          subst Canonical is (all_read ss es (eqb-true (length (members b)) (length ss) same.0) (ltb-false (written_size b + v.size + v.value * width) (length bs) all.0))

    at_count : (p : Parts) (r : Result Varint VarintFault) → read_varint (drop (written_size b) bs) ≡ r → listed width bound b (written_size b) bs r ≡ Ok p → Canonical p
    at_count p (Err f) ev h = never (cc)
    at_count p (Ok v) ev h = at_signatures v ev p _ refl (past (ltb (min bound max_members) v.value) _ _ p h).1

  at_bitmap : (p : Parts) (r : Result Bitmap BitmapFault) → read_bitmap bound bs ≡ r → signed_by width bound bs r ≡ Ok p → Canonical p
  at_bitmap p (Err f) eb h = never (cc)
  at_bitmap p (Ok b) eb h =
      let some = past (eqb (length (members b)) 0) _ _ p h in
      at_count b eb (eqb-false (length (members b)) 0 some.0) p _ refl some.1

  pub canonical : (p : Parts) → read_list width bound bs ≡ Ok p → Canonical p
  unfolding read_list
  canonical p h = at_bitmap p (read_bitmap bound bs) refl h

  -- of an answer
  pub ok_canonical : (r : Result ListCertificate CertificateFault) → map_ok parts r ≡ read_list width bound bs → IfOk r (λ c. Readable width bound (parts c) × (bs ≡ list_written (parts c)))
  ok_canonical (Ok c) h = canonical (parts c) (sym h)
  ok_canonical (Err f) h = tt

-- what is written is read again
length-joined : (width : ℕ) (ss : List (List ℕ)) → AllByRecursion (λ s. length s ≡ width) ss → length (concat ss) ≡ length ss * width
length-joined width [] w = sym (zero-mul width)
length-joined width (s ∷ ss) w = length-append s (concat ss) ∙ (λ i. w.0 i + length-joined width ss w.1 i) ∙ omega arith

pub reads_back : (width bound : ℕ) (p : Parts) → Readable width bound p → read_list width bound (list_written p) ≡ Ok p
unfolding list_written
reads_back width bound p h =
    let b : Bitmap = p.bitmap in
    let ss : List (List ℕ) = p.signatures in
    let tail : List ℕ = varint (length ss) ++ concat ss in
    let bs : List ℕ = bitmap_written b ++ tail in
    let at : ℕ = written_size b in
    let size : ℕ = length (varint (length ss)) in
    let few = count_le b.len b.bits in
    let small : length ss ≤ min bound max_members = omega (arith, h.within, h.paired) in
    let some : length (members b) ≢ 0 = omega (arith, h.somebody) in
    let eb = bitmaps.reads_back bound b tail h.within h.below in
    let behind : drop at bs ≡ tail = drop_at (bitmap_written b) tail at (length-written b) in
    let ev = ap read_varint behind ∙ varints.reads_back (length ss) (concat ss) (omega arith) in
    let last : drop (at + size) bs ≡ concat ss = sym (drop-drop size at bs) ∙ ap (drop size) behind ∙ drop_at (varint (length ss)) (concat ss) size refl in
    let es = ap (signatures width (length ss) (at + size)) last ∙ joined_back width ss (at + size) h.wide in
    let long : length bs ≡ at + size + length ss * width =
    length-append (bitmap_written b) tail ∙ (λ i. length-written b i + (length-append (varint (length ss)) (concat ss) ∙ ap (λ n. size + n) (length-joined width ss h.wide)) i) ∙ omega arith in
    reads_signatures width bound bs b eb some (record { value = length ss; size = size }) ev small
    ∙ ap (finished b at (at + size + length ss * width) (length bs)) es
    ∙ rw (eq-eqb (length (members b)) (length ss) (sym h.paired), le-ltb (at + size + length ss * width) (length bs) (omega arith)) refl
