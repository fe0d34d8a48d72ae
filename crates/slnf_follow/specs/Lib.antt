pub mod Follows
pub mod Refusals
