pub mod Bytes
pub mod Forms
pub mod Pass
pub mod Theorems
