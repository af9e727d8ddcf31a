pub mod Agree
pub mod Laws
pub mod LineSteps
pub mod Lines
pub mod MeansLayout
pub mod ReadContract
pub mod Written
