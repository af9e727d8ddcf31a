pub mod Columns
pub mod Examples
pub mod Field
pub mod Scan
