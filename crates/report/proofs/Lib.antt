pub mod Deciding
pub mod Puts
pub mod Reading
pub mod Reporting
pub mod Setting
pub mod Whole
