pub mod Order
pub mod Score
pub mod Estimate
pub mod Build
