pub mod Counts
pub mod Laws
pub mod Parts
pub mod Rooms
