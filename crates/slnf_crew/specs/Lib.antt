pub mod Courses
pub mod FunctionMachine
pub mod Items
pub mod Errands
