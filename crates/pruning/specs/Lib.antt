pub mod Masks
pub mod Question
pub mod Walk
