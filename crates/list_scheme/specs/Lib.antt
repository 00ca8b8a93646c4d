pub mod Reading
pub mod Writing
pub mod Accepted
pub mod Certificate
pub mod Made
pub mod Soundness
