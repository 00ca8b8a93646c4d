-- How a fault of bytes goes from one layer to the next. Assumes nothing.
use Rattle.std.specs.Prelude.{ℕ, ◌+◌, ◌-◌, ◌^◌, min}
use Rattle.refusals.specs.declared.fault.BitmapFault.{BitmapFault}
use Rattle.refusals.specs.declared.fault.CertificateFault.{CertificateFault}
use Rattle.refusals.specs.declared.fault.BundleFault.{BundleFault}
use Rattle.refusals.specs.declared.fault.Layer.TheVariants.{Bitmap}

-- a certificate begins with its bitmap: the layer is set, the place stays
abbrev pub layered : BitmapFault → CertificateFault
layered f = record { kind = f.kind; layer = Bitmap; place = f.place }

-- a certificate that begins at a place of a bundle: the place is raised (and stops at the largest number)
abbrev pub raised : ℕ → CertificateFault → BundleFault
raised at f = record { kind = f.kind; layer = f.layer; place = min (at + f.place) (2 ^ 64 - 1) }
