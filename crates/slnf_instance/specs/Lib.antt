pub mod Items
pub mod Errands
pub mod Works
pub mod Batches
pub mod Hands
pub mod Ends
pub mod Instances
pub mod Settings
