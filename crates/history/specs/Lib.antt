pub mod Histories
pub mod Ledger
