mod Lists
mod Lines
mod Queue
mod Tale
mod Kin
mod Keeps
mod Ends
mod Items
mod Resting
pub mod Laws
