pub mod Laws
pub mod CaptureLaws
pub mod PlanLaws
