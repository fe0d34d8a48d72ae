pub mod Worked
pub mod Takes
pub mod Reports
pub mod Parts
pub mod Passing
pub mod Crews
pub mod UnderWay
pub mod Merged
