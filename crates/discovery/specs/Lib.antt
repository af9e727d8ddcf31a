pub mod Calls
pub mod Claims
pub mod Listing
pub mod Examples
pub mod Passes
