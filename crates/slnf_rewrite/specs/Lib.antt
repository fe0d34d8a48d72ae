pub mod Rewritten
pub mod Verified
