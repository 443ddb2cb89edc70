pub mod Sights
pub mod Parts
pub mod Storing
pub mod Named
pub mod Locations
pub mod NewBodies
