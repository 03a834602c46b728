pub mod Levels
pub mod Binarize
pub mod Splits
pub mod Flags
pub mod Writing
