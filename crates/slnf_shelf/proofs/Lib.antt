pub mod Laws
pub mod Fronts
pub mod FaultLists
pub mod FileLists
