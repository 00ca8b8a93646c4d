-- The reading of a bitmap: what is written is read again, and what is read is the one writing. Assumes nothing.
use Rattle.std.proofs.Common.{◌≡◌, ℕ, zero, suc, ◌+◌, ◌-◌, ◌*◌, ◌/◌, ◌%◌, ◌^◌, ◌<◌, ◌≤◌, min, ltb, List, [], ◌∷◌, ◌++◌, length, get_or, take, drop, replicate, IfOk, Some, None, Ok, Err, Option, Result, sym, refl, ap, ◌∙◌, subst, pow-suc, arith, lit<, MatchOption, ok_or}
use native.Mathlib.Nat.{pow-le-pow_right}
use lib.Seq.{take-append-add}
use Rattle.std.specs.Int.{w64, from_le_bytes, from_be_bytes}
use Rattle.std.specs.Int.Digits.{number_from_digits}
use Rattle.std.proofs.lemmas.Option.{none-some}
use Rattle.std.proofs.lemmas.Nat.{pow-add, be_bytes_8, from_be_bytes-to_be_bytes_8}
use Rattle.std.proofs.lemmas.List.{take-append-drop, length-append, length-take-le, length-drop, take_at, take_all, append-nil, drop-replicate, get_or-drop, drop_more, drop_all}
use Rattle.std.proofs.lemmas.Bool.{lt-ltb, le-ltb, ltb-true, ltb-false}
use Rattle.refusals.specs.Faults.{layered}
use Rattle.refusals.specs.declared.fault.BitmapFault.{BitmapFault}
use Rattle.refusals.specs.declared.fault.CertificateFault.{CertificateFault}
use Rattle.refusals.specs.declared.fault.FaultKind.TheVariants.{EndOfBuffer, InvalidLength, Invalid}
use Rattle.keys.specs.Bytes.{big_endian, little_endian, little_number}
use Rattle.keys.proofs.Octets.{Octets}
use Rattle.rolls.specs.Bitmap.{Bitmap, bitmap_size, bitmap_written, read_bits, read_bitmap}
use Rattle.refusals.specs.Results.{map_ok}
use Rattle.refusals.proofs.Unrefused.{never, past, kept}
use Rattle.rolls.specs.Signers.{bitmap, written_size, whole, decode_bitmap}
use Rattle.rolls.specs.declared.signers.Signers.{Signers}
use Rattle.rolls.proofs.Writings.{length-little_endian, length-written, big-is}

-- the elements of a list from one on, each by its index
abbrev gets : ℕ → ℕ → List ℕ → List ℕ
gets k zero xs = []
gets k (suc n) xs = get_or xs k 0 ∷ gets (k + 1) n xs

drop-gets : (n k : ℕ) (xs : List ℕ) → length xs ≡ k + n → drop k xs ≡ gets k n xs
drop-gets zero k xs h = drop_all k xs (omega arith)
drop-gets (suc n) k xs h = drop_more xs k 0 (omega arith) ∙ ap (λ z. get_or xs k 0 ∷ z) (drop-gets n (k + 1) xs (omega arith))

-- eight bytes, the least significant first
little_eight : (e : List ℕ) → length e ≡ 8 → from_le_bytes w64 e ≡ little_number e
little_eight e l = let g = ap little_number (drop-gets 8 0 e l) in omega arith

little_none : (k : ℕ) → little_number (replicate {A = ℕ} k 0) ≡ 0
little_none zero = refl
little_none (suc k) = omega (arith, little_none k)

little_padded : (bs : List ℕ) (k : ℕ) → little_number (bs ++ replicate {A = ℕ} k 0) ≡ little_number bs
little_padded [] k = little_none k
little_padded (b ∷ bs) k = ap (λ n. b + 256 * n) (little_padded bs k)

-- at most eight bytes, laid over eight zeros
pub little_is : (bs e : List ℕ) (r : ℕ) → length bs ≤ 8 → e ≡ bs ++ drop (length bs) (replicate {A = ℕ} 8 0) → r ≡ from_le_bytes w64 e → r ≡ little_number bs
little_is bs e r l p q =
    let n : length e ≡ 8 = omega (arith, ap length p ∙ length-append bs (drop (length bs) (replicate {A = ℕ} 8 0)), length-drop (length bs) (replicate {A = ℕ} 8 0)) in
    q ∙ little_eight e n ∙ ap little_number (p ∙ ap (λ z. bs ++ z) (drop-replicate {X = ℕ} (length bs) 8 0)) ∙ little_padded bs (8 - length bs)

-- eight bytes, the most significant first
pub big_eight : (e : List ℕ) → length e ≡ 8 → number_from_digits 256 e ≡ from_be_bytes w64 e
big_eight e l = let g = ap (number_from_digits 256) (drop-gets 8 0 e l) in omega arith

-- a length in eight bytes
pub big_back : (n : ℕ) → n ≤ 64 → number_from_digits 256 (big_endian 8 n) ≡ n
big_back n h = big_eight (big_endian 8 n) refl ∙ ap (from_be_bytes w64) (sym (big-is n)) ∙ from_be_bytes-to_be_bytes_8 n (omega arith)

big_there : (e : List ℕ) → length e ≡ 8 → Octets e → e ≡ big_endian 8 (number_from_digits 256 e)
big_there e l t = sym (be_bytes_8 e (number_from_digits 256 e) l t (big_eight e l)) ∙ big-is (number_from_digits 256 e)

-- bits in bytes
little_back : (n x : ℕ) → x < 256 ^ n → little_number (little_endian n x) ≡ x
little_back zero x h = omega arith
little_back (suc n) x h =
    let p = pow-suc 256 n in
    let q : x / 256 < 256 ^ n = omega arith in
    let r = little_back n (x / 256) q in
    omega arith

little_there : (bs : List ℕ) → Octets bs → little_endian (length bs) (little_number bs) ≡ bs
little_there [] t = refl
little_there (b ∷ bs) t =
    let h : b < 256 = t 0 in
    let p : (b + 256 * little_number bs) % 256 ≡ b = omega arith in
    let q : (b + 256 * little_number bs) / 256 ≡ little_number bs = omega arith in
    rw (p, q) (ap (λ z. b ∷ z) (little_there bs (λ i. t (suc i))))

bytes_pow : (m : ℕ) → 256 ^ m ≡ 2 ^ (8 * m)
bytes_pow zero = refl
bytes_pow (suc m) =
    let e : 8 * suc m ≡ 8 * m + 8 = omega arith in
    pow-suc 256 m ∙ ap (λ z. z * 256) (bytes_pow m) ∙ sym (ap (λ k. 2 ^ k) e ∙ pow-add 2 (8 * m) 8)

bits_fit : (n bits : ℕ) → bits < 2 ^ n → bits < 256 ^ bitmap_size n
bits_fit n bits h =
    let l : n ≤ 8 * bitmap_size n = omega arith in
    let p : 2 ^ n ≤ 2 ^ (8 * bitmap_size n) = pow-le-pow_right (lit< tt) l in
    let e = bytes_pow (bitmap_size n) in
    omega arith

-- each way that the bits are read
pub bits-short : (n : ℕ) (bs : List ℕ) → length bs < bitmap_size n → Err (record { kind = EndOfBuffer; place = 8 }) ≡ read_bits n bs
unfolding read_bits
bits-short n bs h = rw (lt-ltb (length bs) (bitmap_size n) h) refl

pub bits_over : (n : ℕ) (bs : List ℕ) (x : ℕ) → bitmap_size n ≤ length bs → x ≡ little_number (take (bitmap_size n) bs) → 2 ^ n ≤ x
    → Err (record { kind = Invalid; place = 8 }) ≡ read_bits n bs
unfolding read_bits
bits_over n bs x h e g = rw (le-ltb (length bs) (bitmap_size n) h, sym e, le-ltb x (2 ^ n) g) refl

pub bits-fine : (n : ℕ) (bs : List ℕ) (x : ℕ) → bitmap_size n ≤ length bs → x ≡ little_number (take (bitmap_size n) bs) → x < 2 ^ n
    → Ok (record { len = n; bits = x }) ≡ read_bits n bs
unfolding read_bits
bits-fine n bs x h e l = rw (le-ltb (length bs) (bitmap_size n) h, sym e, lt-ltb x (2 ^ n) l) refl

-- a set that is made of the bits, or none
pub bits-made : (n : ℕ) (bs : List ℕ) (x : ℕ) (o : Option Signers) (r : Result Signers BitmapFault) → bitmap_size n ≤ length bs
    → x ≡ little_number (take (bitmap_size n) bs) → MatchOption o (2 ^ n ≤ x) (λ s. bitmap s ≡ record { len = n; bits = x })
    → r ≡ ok_or o (record { kind = Invalid; place = 8 }) → map_ok bitmap r ≡ read_bits n bs
bits-made n bs x None r h e m q = ap (map_ok bitmap) q ∙ bits_over n bs x h e m
bits-made n bs x (Some s) r h e m q =
    let l : x < 2 ^ n = subst (λ b. b.bits < 2 ^ b.len) m s.fits in
    ap (map_ok bitmap) q ∙ ap Ok m ∙ bits-fine n bs x h e l

-- each way that a bitmap is read
pub read_short : (limit : ℕ) (bs : List ℕ) → length bs < 8 → Err (record { kind = EndOfBuffer; place = 0 }) ≡ read_bitmap limit bs
unfolding read_bitmap
read_short limit bs h = rw (lt-ltb (length bs) 8 h) refl

pub read_long : (limit : ℕ) (bs : List ℕ) (n : ℕ) → 8 ≤ length bs → n ≡ number_from_digits 256 (take 8 bs) → min limit 64 < n
    → Err (record { kind = InvalidLength; place = 0 }) ≡ read_bitmap limit bs
unfolding read_bitmap
read_long limit bs n h e l = rw (le-ltb (length bs) 8 h, sym e, lt-ltb (min limit 64) n l) refl

pub read_front : (limit : ℕ) (bs : List ℕ) (n : ℕ) → 8 ≤ length bs → n ≡ number_from_digits 256 (take 8 bs) → n ≤ min limit 64
    → read_bits n (drop 8 bs) ≡ read_bitmap limit bs
unfolding read_bitmap
read_front limit bs n h e l = rw (le-ltb (length bs) 8 h, sym e, le-ltb (min limit 64) n l) refl

-- the first eight bytes, split off, and the number that they write
pub record Split (bs rest : List ℕ) (n : ℕ) : Type 0 where
  pub eight : 8 ≤ length bs
  pub behind : rest ≡ drop 8 bs
  pub number : n ≡ number_from_digits 256 (take 8 bs)

pub split_is : (bs front rest : List ℕ) (n : ℕ) → (front ≡ take 8 bs) × (rest ≡ drop 8 bs) × (length rest + 8 ≡ length bs) → n ≡ from_be_bytes w64 front
    → Split bs rest n
split_is bs front rest n h e =
    let l : 8 ≤ length bs = omega (arith, h.2) in
    record {
      eight = l;
      behind = h.1;
      number = e ∙ ap (from_be_bytes w64) h.0 ∙ sym (big_eight (take 8 bs) (length-take-le 8 bs l));
    }

pub read_behind : (limit : ℕ) (bs rest : List ℕ) (n : ℕ) → Split bs rest n → n ≤ min limit 64 → read_bits n rest ≡ read_bitmap limit bs
read_behind limit bs rest n s l = ap (read_bits n) s.behind ∙ read_front limit bs n s.eight s.number l

-- the error that a `?` hands on
pub handed : {X : Type 0} (o : Option X) (r : Result Signers BitmapFault) (d e f : BitmapFault) (q : Result Bitmap BitmapFault)
    → (y : BitmapFault) × (r ≡ Err y) × (y ≡ f) → ◌≡◌ {A = Result X BitmapFault} (Err f) (ok_or o e) → o ≡ None → e ≡ d → Err d ≡ q → map_ok bitmap r ≡ q
handed None r d e f q p v n z h = let w : f ≡ e = cc in rw (p.1, p.2, w, z) h
handed (Some x) r d e f q p v n z h = absurd (none-some x (sym n))

-- what a bitmap is read from
pub record Read (limit : ℕ) (bs : List ℕ) (b : Bitmap) : Type 0 where
  pub eight : 8 ≤ length bs
  pub len : b.len ≡ number_from_digits 256 (take 8 bs)
  pub few : b.len ≤ min limit 64
  pub long : bitmap_size b.len ≤ length (drop 8 bs)
  pub bits : b.bits ≡ little_number (take (bitmap_size b.len) (drop 8 bs))
  pub fits : b.bits < 2 ^ b.len

pub read_from : (limit : ℕ) (bs : List ℕ) (b : Bitmap) → read_bitmap limit bs ≡ Ok b → Read limit bs b
unfolding read_bitmap read_bits
read_from limit bs b h =
    let n : ℕ = number_from_digits 256 (take 8 bs) in
    let x : ℕ = little_number (take (bitmap_size (number_from_digits 256 (take 8 bs))) (drop 8 bs)) in
    let s1 = past (ltb (length bs) 8) _ _ b h in
    let s2 = past (ltb (min limit 64) (number_from_digits 256 (take 8 bs))) _ _ b s1.1 in
    let s3 = past (ltb (length (drop 8 bs)) (bitmap_size (number_from_digits 256 (take 8 bs)))) _ _ b s2.1 in
    let s4 = kept (ltb x (2 ^ n)) _ _ b s3.1 in
    let same : ◌≡◌ {A = Bitmap} (record { len = n; bits = x }) b = cc in
    subst (Read limit bs) same
    (record {
      eight = ltb-false (length bs) 8 s1.0;
      len = refl;
      few = ltb-false (min limit 64) (number_from_digits 256 (take 8 bs)) s2.0;
      long = ltb-false (length (drop 8 bs)) (bitmap_size (number_from_digits 256 (take 8 bs))) s3.0;
      bits = refl;
      fits = ltb-true x (2 ^ n) s4.0;
    })

-- what is read is the one writing
pub read_written : (limit : ℕ) (bs : List ℕ) (b : Bitmap) → Octets bs → read_bitmap limit bs ≡ Ok b → take (written_size b) bs ≡ bitmap_written b
unfolding bitmap_written
read_written limit bs b t h =
    let r = read_from limit bs b h in
    let m : ℕ = bitmap_size b.len in
    let w : List ℕ = take (bitmap_size b.len) (drop 8 bs) in
    let lw : length w ≡ bitmap_size b.len = length-take-le (bitmap_size b.len) (drop 8 bs) r.long in
    let l8 : length (take 8 bs) ≡ 8 = length-take-le 8 bs r.eight in
    let front : take 8 bs ≡ big_endian 8 b.len = big_there (take 8 bs) l8 (low_at 8 bs t) ∙ ap (big_endian 8) (sym r.len) in
    let low : Octets w = low_at (bitmap_size b.len) (drop 8 bs) (λ k. subst (λ z. z < 256) (sym (get_or-drop 8 bs k 0)) (t (8 + k))) in
    let back : w ≡ little_endian (bitmap_size b.len) b.bits =
    sym (little_there w low) ∙ ap (λ k. little_endian k (little_number w)) lw ∙ ap (little_endian (bitmap_size b.len)) (sym r.bits) in
    ap (take (8 + bitmap_size b.len)) (sym (take-append-drop 8 bs))
    ∙ ap (λ k. take (k + bitmap_size b.len) (take 8 bs ++ drop 8 bs)) (sym l8)
    ∙ take-append-add (take 8 bs) (drop 8 bs) (bitmap_size b.len)
    ∙ ap (λ z. z ++ take (bitmap_size b.len) (drop 8 bs)) front
    ∙ ap (λ z. big_endian 8 b.len ++ z) back
  where
    low_at : (n : ℕ) (xs : List ℕ) → Octets xs → Octets (take n xs)
    low_at zero xs t i = omega arith
    low_at (suc n) [] t i = omega arith
    low_at (suc n) (x ∷ xs) t zero = t 0
    low_at (suc n) (x ∷ xs) t (suc i) = low_at n xs (λ k. t (suc k)) i

-- what is written is read again
pub reads_back : (limit : ℕ) (b : Bitmap) (rest : List ℕ) → b.len ≤ min limit 64 → b.bits < 2 ^ b.len → read_bitmap limit (bitmap_written b ++ rest) ≡ Ok b
unfolding bitmap_written
reads_back limit b rest few fits =
    let m : ℕ = bitmap_size b.len in
    let w : List ℕ = little_endian (bitmap_size b.len) b.bits in
    let bs : List ℕ = (big_endian 8 b.len ++ w) ++ rest in
    let n : number_from_digits 256 (big_endian 8 b.len) ≡ b.len = big_back b.len (omega arith) in
    let lw : length w ≡ bitmap_size b.len = length-little_endian (bitmap_size b.len) b.bits in
    let t : take (bitmap_size b.len) (w ++ rest) ≡ w = take_at w rest (bitmap_size b.len) lw in
    let x : b.bits ≡ little_number (take (bitmap_size b.len) (w ++ rest)) = sym (ap little_number t ∙ little_back (bitmap_size b.len) b.bits (bits_fit b.len b.bits fits)) in
    sym (bits-fine b.len (w ++ rest) b.bits (omega (arith, length-append w rest)) x fits ∙ read_front limit bs b.len (omega arith) (sym n) few)

-- the same of an answer
pub ok_written : (limit : ℕ) (bs : List ℕ) (r : Result Signers BitmapFault) → Octets bs → map_ok bitmap r ≡ read_bitmap limit bs
    → IfOk r (λ s. take (written_size (bitmap s)) bs ≡ bitmap_written (bitmap s))
ok_written limit bs (Ok s) t e = read_written limit bs (bitmap s) t (sym e)
ok_written limit bs (Err f) t e = tt

pub ok_back : (limit : ℕ) (bs : List ℕ) (r : Result Signers BitmapFault) → map_ok bitmap r ≡ read_bitmap limit bs
    → (b : Bitmap) (rest : List ℕ) → b.len ≤ min limit 64 → b.bits < 2 ^ b.len → bs ≡ bitmap_written b ++ rest → map_ok bitmap r ≡ Ok b
ok_back limit bs r e b rest few fits w = e ∙ ap (read_bitmap limit) w ∙ reads_back limit b rest few fits

pub decode_fine : (limit : ℕ) (bs : List ℕ) (b : Bitmap) → read_bitmap limit bs ≡ Ok b → length bs ≤ written_size b → decode_bitmap limit bs ≡ Ok b
decode_fine limit bs b h l = ap (whole bs) h ∙ rw (le-ltb (written_size b) (length bs) l) refl

-- what is written is decoded
pub decodes_back : (limit : ℕ) (b : Bitmap) → b.len ≤ min limit 64 → b.bits < 2 ^ b.len → decode_bitmap limit (bitmap_written b) ≡ Ok b
decodes_back limit b few fits =
    decode_fine limit (bitmap_written b) b (ap (read_bitmap limit) (sym (append-nil (bitmap_written b))) ∙ reads_back limit b [] few fits) (omega (arith, length-written b))

-- the same of an answer
pub ok_decodes : (limit : ℕ) (bs : List ℕ) (r : Result Signers CertificateFault) → map_ok bitmap r ≡ decode_bitmap limit bs
    → (b : Bitmap) → b.len ≤ min limit 64 → b.bits < 2 ^ b.len → bs ≡ bitmap_written b → map_ok bitmap r ≡ Ok b
ok_decodes limit bs r e b few fits w = e ∙ ap (decode_bitmap limit) w ∙ decodes_back limit b few fits

pub decode_broken : (limit : ℕ) (bs : List ℕ) (r : Result Signers CertificateFault) (f : BitmapFault) (y : CertificateFault) → r ≡ Err y → y ≡ layered f
    → Err f ≡ read_bitmap limit bs → map_ok bitmap r ≡ decode_bitmap limit bs
decode_broken limit bs r f y p q h = ap (map_ok bitmap) p ∙ ap Err q ∙ ap (whole bs) h

whole_from : (bs : List ℕ) (x : Result Bitmap BitmapFault) (b : Bitmap) → whole bs x ≡ Ok b → (x ≡ Ok b) × (length bs ≤ written_size b)
whole_from bs (Ok a) b h =
    let s = past (ltb (written_size a) (length bs)) _ _ b h in
    let e : a ≡ b = ok_same a b s.1 in
    (ap Ok e, subst (λ z. length bs ≤ written_size z) e (ltb-false (written_size a) (length bs) s.0))
  where
    ok_same : (a b : Bitmap) → ◌≡◌ {A = Result Bitmap CertificateFault} (Ok a) (Ok b) → a ≡ b
    ok_same a b h = cc
whole_from bs (Err f) b h = never cc

-- bytes that decode are a writing
pub decode_written : (limit : ℕ) (bs : List ℕ) (b : Bitmap) → Octets bs → decode_bitmap limit bs ≡ Ok b → bs ≡ bitmap_written b
decode_written limit bs b t h =
    let s = whole_from bs (read_bitmap limit bs) b h in
    sym (take_all (written_size b) bs s.1) ∙ read_written limit bs b t s.0
