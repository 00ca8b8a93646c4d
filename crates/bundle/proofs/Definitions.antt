-- A bundle without faults is the writing of its entries, of the definitions alone. Assumes nothing.
use Rattle.std.proofs.Common.{◌≡◌, ℕ, zero, suc, ◌+◌, ◌*◌, ◌/◌, ◌%◌, ◌<◌, ◌≤◌, Bool, true, false, cond, eqb, ltb, List, [], ◌∷◌, ◌++◌, map, length, take, drop, Ok, Err, Result, sym, refl, ap, subst, ◌∙◌, zero-add, div-one, arith}
use Rattle.std.specs.List.{AllByRecursion}
use Rattle.std.proofs.lemmas.List.{drop-drop, length-drop, length-take-le, append_assoc, take-append-drop, get_or-drop, nil_from_length}
use Rattle.std.proofs.lemmas.Bool.{le-ltb, ltb-false, or_from, eqb-true}
use Rattle.refusals.specs.Limits.{max_message, max_certificates}
use Rattle.refusals.specs.declared.fault.BundleFault.{BundleFault}
use Rattle.refusals.specs.declared.fault.FaultKind.TheVariants.{ExtraData}
use Rattle.refusals.specs.Results.{map_ok}
use Rattle.refusals.proofs.Unrefused.{never}
use Rattle.keys.specs.Bytes.{big_endian}
use Rattle.keys.proofs.Octets.{Octets}
use Rattle.schemes.specs.Judging.{Judging}
use Rattle.bundle.specs.Verdicts.{seen, some_long}
use Rattle.bundle.specs.Layout.{bundle, field, fault, prefix, opening, closing, entry, entries, following, size, max_prefix, Raw, Short, Limited, field_written, entries_written, bundle_written}

three : {X E : Type 0} (a b c : Bool) (e f g : E) (x y : X) → cond a (Err e) (cond b (Err f) (cond c (Err g) (Ok x))) ≡ Ok y → (a ≡ false) × (b ≡ false) × (c ≡ false) × (x ≡ y)
three true b c e f g x y h = never (cc)
three false true c e f g x y h = never (cc)
three false false true e f g x y h = never (cc)
three false false false e f g x y h = (refl, refl, refl, cc)

-- a field that was read
record Found (limit : ℕ) (bs m : List ℕ) : Type 0 where
  two : 2 ≤ length bs
  small : length m ≤ limit
  same : prefix bs ≡ length m
  whole : 2 + length m ≤ length bs
  is : m ≡ take (length m) (drop 2 bs)

found : (limit at : ℕ) (bs m : List ℕ) → field limit at bs ≡ Ok m → Found limit bs m
unfolding field
found limit at bs m h =
    let t = three (ltb (length bs) 2) (ltb limit (prefix bs)) (ltb (length (drop 2 bs)) (prefix bs)) _ _ _ (take (prefix bs) (drop 2 bs)) m h in
    let a = ltb-false (length bs) 2 t.0 in
    let b = ltb-false limit (prefix bs) t.1 in
    let c = ltb-false (length (drop 2 bs)) (prefix bs) t.2 in
    let d = length-drop 2 bs in
    let s : prefix bs ≡ length m = sym (length-take-le (prefix bs) (drop 2 bs) c) ∙ ap length t.3 in
    record { two = a; small = omega arith; same = s; whole = omega arith; is = sym t.3 ∙ ap (λ n. take n (drop 2 bs)) s }

-- an entry that was read
record Entered (at : ℕ) (bs : List ℕ) (r : Raw) : Type 0 where
  message : Found max_message bs r.message
  certificate : Found max_prefix (drop (2 + length r.message) bs) r.certificate

entered : (at : ℕ) (bs : List ℕ) (r : Raw) → entry at bs ≡ Ok r → Entered at bs r
unfolding entry
entered at bs r h = first (field max_message at bs) refl h
  where
    second : (m : List ℕ) (f : Result (List ℕ) BundleFault) → field max_message at bs ≡ Ok m → field max_prefix (at + 2 + length m) (drop (2 + length m) bs) ≡ f
        → closing m (at + 2 + length m) f ≡ Ok r → Entered at bs r
    second m (Err e) p q k = never (cc)
    second m (Ok c) p q k =
        let u : m ≡ r.message = let z : ◌≡◌ {A = Raw} (record { message = m; place = at + 2 + length m + 2; certificate = c }) r = cc in ap (λ (s : Raw). s.message) z in
        let v : c ≡ r.certificate = let z : ◌≡◌ {A = Raw} (record { message = m; place = at + 2 + length m + 2; certificate = c }) r = cc in ap (λ (s : Raw). s.certificate) z in
        record {
          message = found max_message at bs r.message (p ∙ ap Ok u);
          certificate = found max_prefix (at + 2 + length m) (drop (2 + length r.message) bs) r.certificate
              (ap (λ (z : List ℕ). field max_prefix (at + 2 + length m) (drop (2 + length z) bs)) (sym u) ∙ q ∙ ap Ok v);
        }

    first : (f : Result (List ℕ) BundleFault) → field max_message at bs ≡ f → opening at bs f ≡ Ok r → Entered at bs r
    first (Err e) p k = never (cc)
    first (Ok m) p k = second m (field max_prefix (at + 2 + length m) (drop (2 + length m) bs)) p refl k

-- the first of several entries, and the rest
record Split (k at : ℕ) (bs : List ℕ) (rs : List Raw) : Type 0 where
  head : Raw
  tail : List Raw
  first : Entered at bs head
  rest : entries k (at + size head) (drop (size head) bs) ≡ Ok tail
  joined : rs ≡ head ∷ tail

split : (k at : ℕ) (bs : List ℕ) (rs : List Raw) → entries (suc k) at bs ≡ Ok rs → Split k at bs rs
split k at bs rs h = go (entry at bs) refl h
  where
    more : (r : Raw) (f : Result (List Raw) BundleFault) → entry at bs ≡ Ok r → entries k (at + size r) (drop (size r) bs) ≡ f → map_ok (λ z. r ∷ z) f ≡ Ok rs → Split k at bs rs
    more r (Err e) p q h = never (cc)
    more r (Ok t) p q h = record { head = r; tail = t; first = entered at bs r p; rest = q; joined = cc }

    go : (e : Result Raw BundleFault) → entry at bs ≡ e → following e (λ r. entries k (at + size r) (drop (size r) bs)) ≡ Ok rs → Split k at bs rs
    go (Err e) p h = never (cc)
    go (Ok r) p h = more r (entries k (at + size r) (drop (size r) bs)) p refl h

none_left : (at : ℕ) (bs : List ℕ) (rs : List Raw) → entries zero at bs ≡ Ok rs → (rs ≡ []) × (length bs ≡ 0)
none_left at bs rs h = go (eqb (length bs) 0) refl h
  where
    go : (b : Bool) → eqb (length bs) 0 ≡ b → cond b (Ok []) (Err (fault ExtraData at)) ≡ Ok rs → (rs ≡ []) × (length bs ≡ 0)
    go true e k = (cc, eqb-true (length bs) 0 e)
    go false e k = never (cc)

pub entries_long : (j : Judging) (k at : ℕ) (bs : List ℕ) (rs : List Raw) → entries k at bs ≡ Ok rs → (length rs ≡ k) × (some_long (map (seen j) rs) ≡ false)
entries_long j zero at bs rs h = let n = none_left at bs rs h in (ap length n.0, ap (λ (z : List Raw). some_long (map (seen j) z)) n.0)
entries_long j (suc k) at bs rs h =
    let s = split k at bs rs h in
    let t = entries_long j k (at + size s.head) (drop (size s.head) bs) s.tail s.rest in (
      ap length s.joined ∙ ap suc t.0,
      ap (λ (z : List Raw). some_long (map (seen j) z)) s.joined
          ∙ or_from (ltb max_message (length s.head.message)) (some_long (map (seen j) s.tail)) (le-ltb max_message (length s.head.message) s.first.message.small) t.1,
    )

two_tests : {X E : Type 0} (a b : Bool) (e f : E) (r : Result X E) (x : X) → cond a (Err e) (cond b (Err f) r) ≡ Ok x → (a ≡ false) × (b ≡ false) × (r ≡ Ok x)
two_tests true b e f r x h = never (cc)
two_tests false true e f r x h = never (cc)
two_tests false false e f r x h = (refl, refl, h)

opened : (bs : List ℕ) (rs : List Raw) → bundle bs ≡ Ok rs → (2 ≤ length bs) × (prefix bs ≤ max_certificates) × (entries (prefix bs) 2 (drop 2 bs) ≡ Ok rs)
unfolding bundle
opened bs rs h =
    let t = two_tests (ltb (length bs) 2) (ltb max_certificates (prefix bs)) _ _ (entries (prefix bs) 2 (drop 2 bs)) rs h in
    (ltb-false (length bs) 2 t.0, ltb-false max_certificates (prefix bs) t.1, t.2)

-- a bundle without faults has at most 256 entries, and no long message
pub bundle_limits : (j : Judging) (bs : List ℕ) (rs : List Raw) → bundle bs ≡ Ok rs → (length rs ≤ max_certificates) × (some_long (map (seen j) rs) ≡ false)
bundle_limits j bs rs h =
    let o = opened bs rs h in
    let e = entries_long j (prefix bs) 2 (drop 2 bs) rs o.2 in
    let k = o.1 in let l = e.0 in
    (omega arith, e.1)

entries-count : (k at : ℕ) (bs : List ℕ) (rs : List Raw) → entries k at bs ≡ Ok rs → length rs ≡ k
entries-count zero at bs rs h = ap length (none_left at bs rs h).0
entries-count (suc k) at bs rs h =
    let s = split k at bs rs h in
    ap length s.joined ∙ ap suc (entries-count k (at + size s.head) (drop (size s.head) bs) s.tail s.rest)

entries_short : (k at : ℕ) (bs : List ℕ) (rs : List Raw) → entries k at bs ≡ Ok rs → AllByRecursion Short rs
entries_short zero at bs rs h = let n = none_left at bs rs h in subst (λ (z : List Raw). AllByRecursion Short z) (sym n.0) tt
entries_short (suc k) at bs rs h =
    let s = split k at bs rs h in
    let t = entries_short k (at + size s.head) (drop (size s.head) bs) s.tail s.rest in
    subst (λ (z : List Raw). AllByRecursion Short z) (sym s.joined) ((s.first.message.small, s.first.certificate.small), t)

-- the entries of a bundle without faults are within the limits
pub bundle_limited : (bs : List ℕ) (rs : List Raw) → bundle bs ≡ Ok rs → Limited rs
bundle_limited bs rs h =
    let o = opened bs rs h in
    let l = entries-count (prefix bs) 2 (drop 2 bs) rs o.2 in
    let k = o.1 in
    (omega arith, entries_short (prefix bs) 2 (drop 2 bs) rs o.2)

bytes_drop : (n : ℕ) (bs : List ℕ) → Octets bs → Octets (drop n bs)
bytes_drop n bs h i = let e = get_or-drop n bs i 0 in let k = h (n + i) in omega arith

pair : (a b : ℕ) → a < 256 → b < 256 → big_endian 2 (a * 256 + b) ≡ a ∷ b ∷ []
pair a b h k =
    let p : (a * 256 + b) / 256 % 256 ≡ a = omega arith in
    let q : (a * 256 + b) / 1 % 256 ≡ b = ap (λ n. n % 256) (div-one (a * 256 + b)) ∙ omega arith in
    λ i. p i ∷ q i ∷ []

-- two bytes are the writing of their number
prefix-written : (bs : List ℕ) → 2 ≤ length bs → Octets bs → bs ≡ big_endian 2 (prefix bs) ++ drop 2 bs
prefix-written [] h b = absurd (omega arith)
prefix-written (x ∷ []) h b = absurd (omega arith)
prefix-written (x ∷ y ∷ bs) h b =
    let p : prefix (x ∷ y ∷ bs) ≡ x * 256 + y = ap (λ z. z * 256 + y) (zero-add x) in
    ap (λ z. z ++ bs) (sym (pair x y (b 0) (b 1)) ∙ ap (big_endian 2) (sym p))

found_written : (limit : ℕ) (bs m : List ℕ) → Found limit bs m → Octets bs → bs ≡ field_written m ++ drop (2 + length m) bs
found_written limit bs m f b =
    prefix-written bs f.two b ∙ ap (λ n. big_endian 2 n ++ drop 2 bs) f.same
    ∙ ap (λ z. big_endian 2 (length m) ++ z) (sym (take-append-drop (length m) (drop 2 bs)) ∙ (λ i. sym f.is i ++ drop-drop (length m) 2 bs i))
    ∙ sym (append_assoc (big_endian 2 (length m)) m (drop (2 + length m) bs))

entries_back : (k at : ℕ) (bs : List ℕ) (rs : List Raw) → entries k at bs ≡ Ok rs → Octets bs → bs ≡ entries_written rs
entries_back zero at bs rs h b = let n = none_left at bs rs h in nil_from_length bs n.1 ∙ ap entries_written (sym n.0)
entries_back (suc k) at bs rs h b =
    let s = split k at bs rs h in
    let m = s.head.message in
    let c = s.head.certificate in
    let rest = drop (2 + length m) bs in
    let d : drop (2 + length c) rest ≡ drop (size s.head) bs = drop-drop (2 + length c) (2 + length m) bs in
    let t = entries_back k (at + size s.head) (drop (size s.head) bs) s.tail s.rest (bytes_drop (size s.head) bs b) in
    found_written max_message bs m s.first.message b
    ∙ ap (λ z. field_written m ++ z) (found_written max_prefix rest c s.first.certificate (bytes_drop (2 + length m) bs b) ∙ ap (λ z. field_written c ++ z) (d ∙ t))
    ∙ ap entries_written (sym s.joined)

-- a bundle without faults is the writing of its entries
pub bundle_back : (bs : List ℕ) (rs : List Raw) → bundle bs ≡ Ok rs → Octets bs → bs ≡ bundle_written rs
bundle_back bs rs h b =
    let o = opened bs rs h in
    let l = entries-count (prefix bs) 2 (drop 2 bs) rs o.2 in
    prefix-written bs o.0 b
    ∙ (λ i. big_endian 2 (sym l i) ++ entries_back (prefix bs) 2 (drop 2 bs) rs o.2 (bytes_drop 2 bs b) i)
