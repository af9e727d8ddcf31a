pub mod Examples
pub mod Histories
