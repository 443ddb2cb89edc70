mod TallyLaws
pub mod Prefixes
pub mod EntryLaws
pub mod Adding
pub mod Shares
pub mod Commits
pub mod Batches
pub mod Refused
