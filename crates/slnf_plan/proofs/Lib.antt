pub mod Keys
pub mod Ports
pub mod Items
pub mod Laws
pub mod EpochLaws
pub mod FunctionLaws
pub mod PlanLaws
pub mod ReadLaws
