pub mod Checkpoint
pub mod Restored
pub mod Restorable
pub mod Reached
pub mod Starts
pub mod Laws
