pub mod Prefix
pub mod Numbers
pub mod Equal
pub mod Ranges
