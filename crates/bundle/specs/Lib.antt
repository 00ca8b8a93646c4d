pub mod Layout
pub mod Raws
pub mod Places
pub mod Verdicts
pub mod Text
pub mod Answer
