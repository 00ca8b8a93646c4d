-- The bytes that an entry's slices show. Assumes nothing.
use Rattle.bundle.specs.declared.held.RawEntry.{RawEntry}
use Rattle.bundle.specs.Layout.{Raw}

abbrev pub raw_of : RawEntry → Raw
raw_of e = record { message = e.message.now; place = e.place; certificate = e.certificate.now }
