pub mod Numbers
pub mod ReadLines
pub mod Entries
pub mod Logged
