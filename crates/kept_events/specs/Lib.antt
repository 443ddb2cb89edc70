pub mod Batches
pub mod Calls
pub mod Replies
