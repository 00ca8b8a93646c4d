-- Each refusal's number and its values, in order. Assumes nothing.
use Rattle.std.specs.Prelude.{ℕ, List, [], ◌∷◌, Some, None, Option}
use Rattle.refusals.specs.declared.fault.FaultKind.{FaultKind}
use Rattle.refusals.specs.declared.fault.FaultKind.TheVariants as kinds
use Rattle.refusals.specs.declared.fault.Layer.{Layer}
use Rattle.refusals.specs.declared.fault.Layer.TheVariants.{Bitmap, Signatures, Certificate, Bundle}
use Rattle.refusals.specs.declared.refusal.Refusal.{Refusal}
use Rattle.refusals.specs.declared.refusal.Refusal.TheVariants.{UnknownSigner, DuplicateSigner, MalformedSignature, InsufficientAttestations, SmallBuffer, TooMany, BadRoll, EndOfBuffer, InvalidLength, Invalid, ExtraData}
use Rattle.refusals.specs.declared.refusal.Values.{Values}

abbrev pub layer_number : Layer → ℕ
layer_number Bitmap = 1
layer_number Signatures = 2
layer_number Certificate = 3
layer_number Bundle = 4

abbrev pub kind_number : FaultKind → ℕ
kind_number kinds.EndOfBuffer = 8
kind_number kinds.InvalidLength = 9
kind_number kinds.Invalid = 10
kind_number kinds.ExtraData = 11

abbrev pub number : Refusal → ℕ
number (UnknownSigner i) = 1
number (DuplicateSigner i) = 2
number (MalformedSignature i) = 3
number (InsufficientAttestations r f) = 4
number (SmallBuffer n) = 5
number (TooMany l) = 6
number (BadRoll i) = 7
number (EndOfBuffer l p) = 8
number (InvalidLength l p) = 9
number (Invalid l p) = 10
number (ExtraData l p) = 11

abbrev pub values : Refusal → List ℕ
values (UnknownSigner i) = i ∷ []
values (DuplicateSigner i) = i ∷ []
values (MalformedSignature i) = i ∷ []
values (InsufficientAttestations r f) = r ∷ f ∷ []
values (SmallBuffer n) = n ∷ []
values (TooMany l) = l ∷ []
values (BadRoll i) = i ∷ []
values (EndOfBuffer l p) = layer_number l ∷ p ∷ []
values (InvalidLength l p) = layer_number l ∷ p ∷ []
values (Invalid l p) = layer_number l ∷ p ∷ []
values (ExtraData l p) = layer_number l ∷ p ∷ []

-- the refusal that a fault of bytes becomes
abbrev pub refused : FaultKind → Layer → ℕ → Refusal
refused kinds.EndOfBuffer l p = EndOfBuffer l p
refused kinds.InvalidLength l p = InvalidLength l p
refused kinds.Invalid l p = Invalid l p
refused kinds.ExtraData l p = ExtraData l p

-- one value or two, as a list
abbrev pub both : ℕ → Option ℕ → List ℕ
both x None = x ∷ []
both x (Some y) = x ∷ y ∷ []

abbrev pub listed : Values → List ℕ
listed v = both v.first v.second
