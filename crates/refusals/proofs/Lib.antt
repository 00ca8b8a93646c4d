pub mod Prepending
pub mod Unrefused
