pub mod Reached
pub mod Progress
pub mod Hands
