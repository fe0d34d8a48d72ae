pub mod Laws
mod Coding
mod Dealing
mod Setting
mod Taking
