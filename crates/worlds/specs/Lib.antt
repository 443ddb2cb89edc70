pub mod Seen
pub mod Laws
pub mod TwoRuns
pub mod Bits
pub mod Journals
