pub mod Flag
pub mod Layout
pub mod Keys
pub mod Values
