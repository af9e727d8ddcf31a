pub mod ByTraces
pub mod Confidence
pub mod FindContract
pub mod Listing
pub mod Orderless
