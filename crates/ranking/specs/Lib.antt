pub mod Ranking
pub mod Tables
pub mod Insertion
