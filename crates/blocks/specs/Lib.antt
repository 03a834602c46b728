pub mod Blocks
pub mod Rects
pub mod Steps
pub mod Work
