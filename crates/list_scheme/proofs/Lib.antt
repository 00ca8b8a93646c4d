pub mod Listing
pub mod FieldByField
pub mod RoundTrip
pub mod Signing
