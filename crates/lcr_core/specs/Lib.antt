pub mod Outcome
pub mod Version
pub mod Finder
pub mod Color
pub mod Passed
pub mod Answer
