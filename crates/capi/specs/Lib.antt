pub mod Histories
pub mod Numbers
