pub mod Conns
pub mod Flight
pub mod Machine
pub mod Refuses
pub mod Scene
pub mod Bound
