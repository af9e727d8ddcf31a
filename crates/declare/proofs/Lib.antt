pub mod Deciding
pub mod Occurrence
pub mod Occurring
pub mod Places
pub mod Reaching
pub mod Summary
