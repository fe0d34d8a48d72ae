pub mod Map
pub mod Store
pub mod Machines
pub mod Order
