mod Orders
pub mod Laws
