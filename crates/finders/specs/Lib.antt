pub mod Answer
pub mod Search
pub mod Hits
pub mod Held
pub mod Rank
pub mod Inner
pub mod Published
pub mod Limit
