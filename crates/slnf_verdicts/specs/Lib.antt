pub mod Tables
pub mod Parts
pub mod Standings
pub mod Batches
pub mod Given
