pub mod Blocks
pub mod Query
pub mod Replays
