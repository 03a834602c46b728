pub mod Refusals
pub mod Tails
pub mod Closed
pub mod Theorems
