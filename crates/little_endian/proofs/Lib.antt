pub mod One
pub mod Pieces
pub mod Round
pub mod Steps
