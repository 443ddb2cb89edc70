pub mod Apart
pub mod Itself
pub mod Exact
pub mod Keeping
pub mod Telling
