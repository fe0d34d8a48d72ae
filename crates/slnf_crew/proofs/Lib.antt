pub mod Fitting
mod Functions
mod Hired
pub mod Laws
mod PlanEpochs
mod Pushes
mod Staffing
