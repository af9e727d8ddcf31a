pub mod Bools
pub mod Checks
pub mod Counting
pub mod Lists
pub mod Outcomes
pub mod Ranges
pub mod Stores
