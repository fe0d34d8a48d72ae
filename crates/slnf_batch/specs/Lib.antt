pub mod Cut
pub mod Firsts
pub mod Order
