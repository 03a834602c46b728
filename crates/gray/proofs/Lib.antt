pub mod GrayLaws
pub mod Theorems
