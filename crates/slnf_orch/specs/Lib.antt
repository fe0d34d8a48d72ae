pub mod Actors
pub mod Hiring
pub mod Passing
