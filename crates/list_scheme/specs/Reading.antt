-- How a list certificate is read: a bitmap, a count, the signatures. Assumes nothing.
use Rattle.std.specs.Prelude.{ℕ, zero, suc, ◌+◌, ◌*◌, min, cond, List, [], ◌∷◌, length, take, drop, Ok, Err, Result, ◌==◌, nat_lt}
use Rattle.refusals.specs.Faults.{layered}
use Rattle.refusals.specs.Limits.{max_members}
use Rattle.refusals.specs.Results.{map_ok}
use Rattle.refusals.specs.declared.fault.BitmapFault.{BitmapFault}
use Rattle.refusals.specs.declared.fault.CertificateFault.{CertificateFault}
use Rattle.refusals.specs.declared.fault.FaultKind.{FaultKind}
use Rattle.refusals.specs.declared.fault.FaultKind.TheVariants.{EndOfBuffer, InvalidLength, Invalid, ExtraData}
use Rattle.refusals.specs.declared.fault.Layer.{Layer}
use Rattle.refusals.specs.declared.fault.Layer.TheVariants.{Signatures, Certificate}
use Rattle.keys.specs.Varint.{read_varint, fault_kind}
use Rattle.keys.specs.declared.varint.Varint.{Varint}
use Rattle.keys.specs.declared.varint.VarintFault.{VarintFault}
use Rattle.rolls.specs.Bitmap.{Bitmap, members, read_bitmap}
use Rattle.rolls.specs.Signers.{written_size}
use Rattle.schemes.specs.Judging.{Parts}

abbrev pub fault : FaultKind → Layer → ℕ → CertificateFault
fault kind layer place = record { kind = kind; layer = layer; place = place }

-- so many signatures of a width, from a place on
abbrev pub signatures : ℕ → ℕ → ℕ → List ℕ → Result (List (List ℕ)) CertificateFault
signatures width zero at bs = Ok []
signatures width (suc k) at bs =
    cond (nat_lt (length bs) width) (Err (fault EndOfBuffer Signatures at))
    (map_ok (λ ss. take width bs ∷ ss) (signatures width k (at + width) (drop width bs)))

-- the signatures are as many as the members, and nothing is left over behind them
abbrev pub finished : Bitmap → ℕ → ℕ → ℕ → Result (List (List ℕ)) CertificateFault → Result Parts CertificateFault
finished b at end total (Err f) = Err f
finished b at end total (Ok ss) =
    cond (length (members b) == length ss)
    (cond (nat_lt end total) (Err (fault ExtraData Certificate end)) (Ok (record { bitmap = b; signatures = ss })))
    (Err (fault Invalid Certificate at))

-- a count that could not be read, at a place
abbrev pub misread : VarintFault → ℕ → CertificateFault
misread f at = fault (fault_kind f) Signatures at

-- the count is at most the bound
abbrev pub listed : ℕ → ℕ → Bitmap → ℕ → List ℕ → Result Varint VarintFault → Result Parts CertificateFault
listed width bound b at bs (Err f) = Err (misread f at)
listed width bound b at bs (Ok v) =
    cond (nat_lt (min bound max_members) v.value) (Err (fault InvalidLength Signatures at))
    (finished b at (at + v.size + v.value * width) (length bs) (signatures width v.value (at + v.size) (drop (at + v.size) bs)))

-- some member is named
abbrev pub signed_by : ℕ → ℕ → List ℕ → Result Bitmap BitmapFault → Result Parts CertificateFault
signed_by width bound bs (Err f) = Err (layered f)
signed_by width bound bs (Ok b) =
    cond (length (members b) == 0) (Err (fault Invalid Certificate 0))
    (listed width bound b (written_size b) bs (read_varint (drop (written_size b) bs)))

-- a certificate of at most so many members, with signatures of a width
unfoldable pub read_list : ℕ → ℕ → List ℕ → Result Parts CertificateFault
read_list width bound bs = signed_by width bound bs (read_bitmap bound bs)
