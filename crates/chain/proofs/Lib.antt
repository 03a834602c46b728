pub mod Theorems
pub mod Chained
pub mod EntryLaws
