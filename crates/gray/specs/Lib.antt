pub mod Gray
pub mod Passed
