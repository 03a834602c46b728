pub mod Order
pub mod Ranks
pub mod Inserting
pub mod Enumeration
pub mod Tables
pub mod Standing
pub mod Theorems
