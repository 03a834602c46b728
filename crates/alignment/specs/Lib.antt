pub mod Alignment
pub mod Template
pub mod Counting
pub mod Known
