pub mod Columns
pub mod Fields
