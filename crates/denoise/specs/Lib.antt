pub mod Denoise
pub mod Passed
pub mod Window
