pub mod Calls
pub mod Examples
pub mod Layout
pub mod Log
pub mod Survey
