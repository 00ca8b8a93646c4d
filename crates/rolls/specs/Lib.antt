pub mod Quorum
pub mod Bitmap
pub mod Signers
pub mod Gathered
pub mod Enrolled
pub mod Roll
