pub mod Candidates
pub mod Detection
pub mod Graded
pub mod Passing
pub mod Published
