pub mod Exact
pub mod Rowed
pub mod Stored
pub mod Least
pub mod Agreeing
pub mod Chain
