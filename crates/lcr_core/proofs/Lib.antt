pub mod Checks
pub mod Theorems
pub mod Answers
