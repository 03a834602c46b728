pub mod Inner
pub mod Stored
