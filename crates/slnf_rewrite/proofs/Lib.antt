pub mod Words
pub mod Spans
pub mod Written
pub mod Checks
pub mod Laws
