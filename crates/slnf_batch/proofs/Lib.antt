pub mod Laws
mod Cutting
mod Four
