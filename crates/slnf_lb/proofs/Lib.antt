pub mod Same
pub mod Steps
pub mod Laws
pub mod OneBox
pub mod PinsStay
