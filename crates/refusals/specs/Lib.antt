pub mod Limits
pub mod Faults
pub mod Numbers
pub mod Results
