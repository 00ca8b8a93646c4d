pub mod BitLaws
pub mod MemberLaws
pub mod Members
pub mod Gathering
pub mod Writings
pub mod Readings
pub mod Placing
pub mod Enrolling
