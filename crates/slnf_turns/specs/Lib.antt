pub mod Hands
pub mod Passes
pub mod Rule
pub mod Seats
pub mod Steps
pub mod Values
pub mod Views
