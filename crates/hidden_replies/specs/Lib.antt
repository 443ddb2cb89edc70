pub mod Replies
pub mod Asked
pub mod Exceptions
pub mod Hidden
pub mod Places
pub mod RunsOf
pub mod Told
