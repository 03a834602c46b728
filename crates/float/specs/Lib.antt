pub mod Floats
pub mod Fields
pub mod Steps
pub mod Constants
