pub mod LineLemmas
pub mod TextLemmas
pub mod Faults
pub mod ScriptLemmas
pub mod Progress
pub mod KeptLines
pub mod ReadSoFar
pub mod Unbound
pub mod OpenBatches
mod LineLaws
mod ExactLaws
pub mod NameLineLaws
pub mod NameLines
pub mod NameProgress
mod NameWriting
