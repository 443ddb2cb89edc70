pub mod Touched
pub mod Flows
pub mod Laws
