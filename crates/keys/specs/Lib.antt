pub mod Bytes
pub mod Varint
pub mod Payload
pub mod Signed
pub mod Meaning
pub mod Residue
pub mod ResidueLaws
pub mod Batch
