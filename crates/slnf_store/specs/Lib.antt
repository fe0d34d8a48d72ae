pub mod Accesses
pub mod Closes
pub mod Lines
pub mod Passes
pub mod Stores
