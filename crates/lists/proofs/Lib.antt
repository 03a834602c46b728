pub mod Numbers
pub mod Tabulate
pub mod Filters
pub mod Folds
pub mod Padded
