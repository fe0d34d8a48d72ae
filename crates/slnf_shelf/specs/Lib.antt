pub mod Calls
pub mod Counters
pub mod Files
pub mod Listed
pub mod Memory
pub mod Shelf
pub mod Whole
