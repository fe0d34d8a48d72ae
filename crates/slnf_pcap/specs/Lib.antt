pub mod Format
pub mod Records
pub mod Captures
pub mod Errors
