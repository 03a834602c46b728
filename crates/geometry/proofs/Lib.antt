pub mod Answers
pub mod Scores
pub mod Theorems
