pub mod Lists
pub mod Room
