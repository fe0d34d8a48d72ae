pub mod Kinds
pub mod Rules
pub mod States
pub mod Transitions
