mod Accesses
mod Buckets
mod FirstClocks
mod Histories
pub mod Laws
mod Stored
