mod Codes
mod Conns
mod Layouts
pub mod Laws
