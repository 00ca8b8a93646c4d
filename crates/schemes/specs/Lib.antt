pub mod Subjects
pub mod Namespaces
pub mod Judging
pub mod Payloads
pub mod Meaning
pub mod Signing
