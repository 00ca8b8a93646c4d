-- The list scheme is sound as a verifier. Assumes nothing.
use Rattle.std.specs.Prelude.{◌≡◌, ℕ, zero, suc, ◌+◌, ◌*◌, ◌≤◌, min, Bool, true, false, cond, List, ◌∷◌, length, take, drop, Ok, Err, Result, ◌==◌, ◌≢◌, nat_lt}
use Rattle.std.proofs.Common.{ap, ◌∙◌, arith}
use Rattle.refusals.specs.Limits.{max_members}
use Rattle.refusals.specs.Results.{map_ok}
use Rattle.refusals.specs.declared.fault.BitmapFault.{BitmapFault}
use Rattle.refusals.specs.declared.fault.CertificateFault.{CertificateFault}
use Rattle.refusals.specs.declared.fault.FaultKind.TheVariants.{EndOfBuffer, InvalidLength, Invalid, ExtraData}
use Rattle.refusals.specs.declared.fault.Layer.{Layer}
use Rattle.refusals.specs.declared.fault.Layer.TheVariants.{Signatures, Certificate, Bundle}
use Rattle.refusals.specs.Numbers.{layer_number}
use Rattle.keys.specs.Meaning.{KeyMeaning}
use Rattle.keys.specs.Varint.{read_varint}
use Rattle.keys.specs.declared.varint.Varint.{Varint}
use Rattle.keys.specs.declared.varint.VarintFault.{VarintFault}
use Rattle.keys.specs.declared.varint.VarintFault.TheVariants as varints
use Rattle.rolls.specs.Bitmap.{members, read_bitmap}
use Rattle.rolls.specs.Bitmap as bitmaps
use Rattle.rolls.specs.Signers.{written_size}
use Rattle.rolls.specs.declared.faults.Faults.{Faults}
use Rattle.schemes.specs.Judging.{Sound}
use Rattle.list_scheme.specs.Accepted.{list_judging}
use Rattle.list_scheme.specs.Reading.{fault, signatures, finished, misread, listed, signed_by, read_list}

-- whether a fault, if there is one, is of the bitmap, the signatures or the certificate
abbrev lower : {X : Type 0} → Result X CertificateFault → Type 0
lower (Ok x) = Unit {0}
lower (Err f) = f.layer ≡ Bundle → ⊥

apart : {l : Layer} → (layer_number l ≢ 4) → l ≢ Bundle
apart h e = h (ap layer_number e)

lower_cond : {X : Type 0} (b : Bool) (r s : Result X CertificateFault) → lower r → lower s → lower (cond b r s)
lower_cond true r s h k = h
lower_cond false r s h k = k

lower-map : {X Y : Type 0} (f : X → Y) (r : Result X CertificateFault) → lower r → lower (map_ok f r)
lower-map f (Ok x) h = tt
lower-map f (Err e) h = h

signatures-lower : (width k at : ℕ) (bs : List ℕ) → lower (signatures width k at bs)
signatures-lower width zero at bs = tt
signatures-lower width (suc k) at bs =
    lower_cond (nat_lt (length bs) width) (Err (fault EndOfBuffer Signatures at)) _ (apart (λ e. omega arith))
    (lower-map (λ ss. take width bs ∷ ss) (signatures width k (at + width) (drop width bs)) (signatures-lower width k (at + width) (drop width bs)))

finished-lower : (b : bitmaps.Bitmap) (at end total : ℕ) (r : Result (List (List ℕ)) CertificateFault) → lower r → lower (finished b at end total r)
finished-lower b at end total (Err f) h = h
finished-lower b at end total (Ok ss) h =
    lower_cond (length (members b) == length ss) _ (Err (fault Invalid Certificate at))
    (lower_cond (nat_lt end total) (Err (fault ExtraData Certificate end)) (Ok (record { bitmap = b; signatures = ss })) (apart (λ e. omega arith)) tt) (apart (λ e. omega arith))

misread-lower : (f : VarintFault) (at : ℕ) → (misread f at).layer ≢ Bundle
misread-lower varints.EndOfBuffer at = apart (λ e. omega arith)
misread-lower varints.Invalid at = apart (λ e. omega arith)

listed-lower : (width bound : ℕ) (b : bitmaps.Bitmap) (at : ℕ) (bs : List ℕ) (r : Result Varint VarintFault) → lower (listed width bound b at bs r)
listed-lower width bound b at bs (Err f) = misread-lower f at
listed-lower width bound b at bs (Ok v) =
    lower_cond (nat_lt (min bound max_members) v.value) (Err (fault InvalidLength Signatures at)) _ (apart (λ e. omega arith))
    (finished-lower b at (at + v.size + v.value * width) (length bs) _ (signatures-lower width v.value (at + v.size) (drop (at + v.size) bs)))

signed_lower : (width bound : ℕ) (bs : List ℕ) (r : Result bitmaps.Bitmap BitmapFault) → lower (signed_by width bound bs r)
signed_lower width bound bs (Err f) = apart (λ e. omega arith)
signed_lower width bound bs (Ok b) =
    lower_cond (length (members b) == 0) (Err (fault Invalid Certificate 0)) _ (apart (λ e. omega arith)) (listed-lower width bound b (written_size b) bs (read_varint (drop (written_size b) bs)))

read_lower : (width bound : ℕ) (bs : List ℕ) → lower (read_list width bound bs)
unfolding read_list
read_lower width bound bs = signed_lower width bound bs (read_bitmap bound bs)

told : {X : Type 0} (r : Result X CertificateFault) (f : CertificateFault) → lower r → r ≡ Err f → f.layer ≢ Bundle
told (Ok x) f h e q = let z : ◌≡◌ {A = ℕ} 0 1 = cc in omega arith
told (Err g) f h e q = let z : ◌≡◌ {A = CertificateFault} g f = cc in h (ap (λ (x : CertificateFault). x.layer) z ∙ q)

pub list_sound : (m : KeyMeaning) (keys : List (List ℕ)) (faults : Faults) (namespace : List ℕ) → 1 ≤ length keys → length keys ≤ max_members → Sound (list_judging m keys faults namespace)
list_sound m keys faults namespace some few = record { some = some; few = few; lower = λ bound bs f q. told (read_list m.width bound bs) f (read_lower m.width bound bs) q }
