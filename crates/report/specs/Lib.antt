pub mod Examples
pub mod Print
pub mod Puts
pub mod Report
pub mod Stages
pub mod Whole
