pub mod Limit
pub mod Preview
