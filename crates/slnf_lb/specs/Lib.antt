pub mod Flight
pub mod Machine
pub mod StoredPins
pub mod Refuses
pub mod Kept
pub mod Scene
pub mod Pins
