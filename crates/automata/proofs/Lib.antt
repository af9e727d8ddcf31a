pub mod Agreement
pub mod Shifting
pub mod Following
pub mod Outlooks
pub mod SmallN
