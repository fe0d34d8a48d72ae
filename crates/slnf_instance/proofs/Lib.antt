pub mod Laws
mod Answering
mod Batching
mod Coding
mod Every
mod Finishing
mod Going
mod Opening
mod Stepping
pub mod Taking
mod Until
mod Wanting
