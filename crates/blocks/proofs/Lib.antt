pub mod Grids
pub mod Measures
pub mod Marking
pub mod Brighter
pub mod Refusals
