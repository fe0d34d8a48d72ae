pub mod Apart
pub mod Filled
mod Filling
pub mod Giving
pub mod Handing
pub mod Leaving
pub mod Placing
pub mod Told
