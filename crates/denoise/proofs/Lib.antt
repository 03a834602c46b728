pub mod Windows
pub mod Votes
