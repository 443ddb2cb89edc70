pub mod Layers
pub mod Rooms
