pub mod Laws
pub mod Elements
pub mod Cells
pub mod Orders
pub mod Versions
