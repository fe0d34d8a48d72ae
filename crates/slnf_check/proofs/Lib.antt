mod Agreement
mod SameTexts
mod Leavings
mod Exactly
pub mod Sizes
