pub mod Callers
pub mod Sums
