pub mod Checks
pub mod Lists
pub mod Logic
