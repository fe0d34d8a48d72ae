pub mod Field
pub mod View
