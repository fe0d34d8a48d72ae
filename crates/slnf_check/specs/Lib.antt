pub mod Compare
pub mod Given
pub mod Outputs
pub mod Checks
pub mod Answers
