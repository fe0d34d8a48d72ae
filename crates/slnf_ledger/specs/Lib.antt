pub mod Ledger
pub mod Told
