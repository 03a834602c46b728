pub mod Pictures
pub mod Stages
pub mod Lent
