pub mod Calls
pub mod Examples
pub mod Loops
pub mod Table
pub mod Watching
