pub mod Fixes
pub mod Calls
pub mod Blank
pub mod Pictures
pub mod Theorems
