pub mod Counted
pub mod Masks
pub mod Pruning
pub mod Walking
