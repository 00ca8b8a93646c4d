-- Reading a bundle entry by entry. Assumes nothing.
use Rattle.std.proofs.Common.{◌≡◌, ℕ, suc, ◌+◌, ◌-◌, ◌<◌, ◌≤◌, eqb, cond, true, false, List, [], ◌∷◌, ◌++◌, length, drop, Ok, Err, sym, refl, ap, ◌∙◌, arith}
use Rattle.std.specs.List.{AllByRecursion}
use Rattle.std.proofs.lemmas.List.{length-append, length_push, append_assoc, append-nil, drop_at}
use Rattle.std.proofs.lemmas.Bool.{lt-ltb, le-ltb}
use Rattle.refusals.proofs.Prepending.{all_ok, more_ok}
use Rattle.refusals.specs.Limits.{max_certificates}
use Rattle.refusals.specs.declared.fault.BundleFault.{BundleFault}
use Rattle.refusals.specs.declared.fault.FaultKind.TheVariants.{EndOfBuffer, InvalidLength, ExtraData}
use Rattle.refusals.specs.Results.{map_ok}
use Rattle.keys.specs.Bytes.{big_endian}
use Rattle.bundle.specs.Layout.{Raw, bundle, fault, prefix, entry, entries, following, size, Short, field_written, entries_written}
use Rattle.bundle.proofs.Fields.{prefix_again}

pub bundle_short : (bs : List ℕ) → length bs < 2 → bundle bs ≡ Err (fault EndOfBuffer 0)
unfolding bundle
bundle_short bs h = rw (lt-ltb (length bs) 2 h) refl

pub bundle_large : (bs : List ℕ) → 2 ≤ length bs → max_certificates < prefix bs → bundle bs ≡ Err (fault InvalidLength 0)
unfolding bundle
bundle_large bs h k = rw (le-ltb (length bs) 2 h, lt-ltb max_certificates (prefix bs) k) refl

-- else a bundle is what its entries are
pub bundle-entries : (bs : List ℕ) → 2 ≤ length bs → prefix bs ≤ max_certificates → bundle bs ≡ entries (prefix bs) 2 (drop 2 bs)
unfolding bundle
bundle-entries bs h k = rw (le-ltb (length bs) 2 h, le-ltb max_certificates (prefix bs) k) refl

-- the same where the count and the bytes behind it have names
pub bundle_behind : (count : ℕ) (rest : List ℕ) → count ≤ max_certificates → bundle (big_endian 2 count ++ rest) ≡ entries count 2 rest
bundle_behind count rest h =
    let p = prefix_again count rest (omega arith) in
    bundle-entries (big_endian 2 count ++ rest) (omega arith) (omega arith) ∙ ap (λ n. entries n 2 rest) p

-- what follows an entry
pub behind : (r : Raw) (rest : List ℕ) → drop (size r) (field_written r.message ++ (field_written r.certificate ++ rest)) ≡ rest
behind r rest =
    let m = field_written r.message in
    let c = field_written r.certificate in
    let l = length-append m c in
    ap (drop (size r)) (sym (append_assoc m c rest)) ∙ drop_at (m ++ c) rest (size r) (omega arith)

-- a bundle of which some entries are read: what is left, and its place
pub record Reading (bs : List ℕ) (count i : ℕ) (found : List Raw) (place : ℕ) (rest : List ℕ) : Type 0 where
  pub so_many : length found ≡ i
  pub whole : map_ok (λ rs. found ++ rs) (entries (count - i) place rest) ≡ bundle bs
  pub written : bs ≡ big_endian 2 count ++ (entries_written found ++ rest)
  pub short : AllByRecursion Short found

pub reading_none : (bs : List ℕ) (count place : ℕ) (rest : List ℕ) → bs ≡ big_endian 2 count ++ rest → count ≤ max_certificates → place ≡ 2 → Reading bs count 0 [] place rest
reading_none bs count place rest w h p =
    record {
      so_many = refl;
      whole = all_ok (entries (count - 0) place rest) ∙ (λ i. entries (let e : count - 0 ≡ count = omega arith in e i) (p i) rest) ∙ sym (bundle_behind count rest h) ∙ ap bundle (sym w);
      written = w;
      short = tt;
    }

step : (k n place place' : ℕ) (r : Raw) (rest rest' : List ℕ) → n ≡ suc k → Ok r ≡ entry place rest → rest ≡ field_written r.message ++ (field_written r.certificate ++ rest') → place' ≡ place + size r
    → entries n place rest ≡ map_ok (λ rs. r ∷ rs) (entries k place' rest')
step k n place place' r rest rest' h e w p =
    ap (λ z. entries z place rest) h
    ∙ ap (λ z. following z (λ q. entries k (place + size q) (drop (size q) rest))) (sym e)
    ∙ (λ i. map_ok (λ rs. r ∷ rs) (entries k (sym p i) ((ap (drop (size r)) w ∙ behind r rest') i)))

written_more : (found : List Raw) (r : Raw) (rest : List ℕ) → entries_written found ++ (field_written r.message ++ (field_written r.certificate ++ rest)) ≡ entries_written (found ++ r ∷ []) ++ rest
written_more [] r rest =
    let m = field_written r.message in
    let c = field_written r.certificate in
    sym (append_assoc m c rest) ∙ ap (λ z. (m ++ z) ++ rest) (sym (append-nil c))
written_more (q ∷ found) r rest =
    let m = field_written q.message in
    let c = field_written q.certificate in
    three m c (entries_written found) _ ∙ ap (λ z. m ++ (c ++ z)) (written_more found r rest) ∙ sym (three m c (entries_written (found ++ r ∷ [])) rest)
  where
    three : (m c w z : List ℕ) → (m ++ (c ++ w)) ++ z ≡ m ++ (c ++ (w ++ z))
    three m c w z = append_assoc m (c ++ w) z ∙ ap (λ x. m ++ x) (append_assoc c w z)

short_more : (found : List Raw) (r : Raw) → AllByRecursion Short found → Short r → AllByRecursion Short (found ++ r ∷ [])
short_more [] r s h = (h, tt)
short_more (q ∷ found) r s h = (s.0, short_more found r s.1 h)

pub reading_more : (bs : List ℕ) (count i : ℕ) (found : List Raw) (place place' : ℕ) (rest rest' : List ℕ) (r : Raw) → Reading bs count i found place rest → i < count
    → Ok r ≡ entry place rest → rest ≡ field_written r.message ++ (field_written r.certificate ++ rest') → place' ≡ place + size r → Short r
    → Reading bs count (i + 1) (found ++ r ∷ []) place' rest'
reading_more bs count i found place place' rest rest' r a h e w p s =
    record {
      so_many = let n = a.so_many in omega (arith, length_push found r);
      whole = sym (more_ok found r (entries (count - (i + 1)) place' rest'))
          ∙ ap (map_ok (λ rs. found ++ rs)) (sym (step (count - (i + 1)) (count - i) place place' r rest rest' (omega arith) e w p)) ∙ a.whole;
      written = a.written ∙ ap (λ z. big_endian 2 count ++ (entries_written found ++ z)) w ∙ ap (λ z. big_endian 2 count ++ z) (written_more found r rest');
      short = short_more found r a.short s;
    }

pub reading_fault : (bs : List ℕ) (count i : ℕ) (found : List Raw) (place : ℕ) (rest : List ℕ) (f : BundleFault) → Reading bs count i found place rest → i < count
    → Err f ≡ entry place rest → Err f ≡ bundle bs
reading_fault bs count i found place rest f a h e =
    let n : count - i ≡ suc (count - (i + 1)) = omega arith in
    sym (sym a.whole ∙ ap (map_ok (λ rs. found ++ rs)) (ap (λ z. entries z place rest) n ∙ ap (λ z. following z (λ q. entries (count - (i + 1)) (place + size q) (drop (size q) rest))) (sym e)))

ended : (bs : List ℕ) (count i : ℕ) (found : List Raw) (place : ℕ) (rest : List ℕ) → Reading bs count i found place rest → count ≤ i
    → bundle bs ≡ map_ok (λ rs. found ++ rs) (cond (eqb (length rest) 0) (Ok []) (Err (fault ExtraData place)))
ended bs count i found place rest a h =
    let n : count - i ≡ 0 = omega arith in
    sym a.whole ∙ ap (λ z. map_ok (λ rs. found ++ rs) (entries z place rest)) n

pub reading_extra : (bs : List ℕ) (count i : ℕ) (found : List Raw) (place : ℕ) (rest : List ℕ) → Reading bs count i found place rest → count ≤ i → eqb (length rest) 0 ≡ false
    → Err (fault ExtraData place) ≡ bundle bs
reading_extra bs count i found place rest a h k =
    sym (ended bs count i found place rest a h ∙ ap (λ b. map_ok (λ rs. found ++ rs) (cond b (Ok []) (Err (fault ExtraData place)))) k)

pub reading_all : (bs : List ℕ) (count i : ℕ) (found : List Raw) (place : ℕ) (rest : List ℕ) → Reading bs count i found place rest → count ≤ i → eqb (length rest) 0 ≡ true
    → Ok found ≡ bundle bs
reading_all bs count i found place rest a h k =
    sym (ended bs count i found place rest a h
    ∙ ap (λ b. map_ok (λ rs. found ++ rs) (cond b (Ok []) (Err (fault ExtraData place)))) k ∙ ap Ok (append-nil found))
