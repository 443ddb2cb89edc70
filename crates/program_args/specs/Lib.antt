pub mod Answers
pub mod Asked
pub mod Commands
pub mod Ids
pub mod Path
pub mod Showing
pub mod Told
