pub mod Shards
pub mod Parts
