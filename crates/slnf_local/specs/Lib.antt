pub mod Local
pub mod Rules
pub mod Hands
pub mod Followers
pub mod Cuts
pub mod Tells
pub mod Tests
pub mod Passes
