pub mod RowLaws
pub mod RepairLaws
pub mod NamedLaws
pub mod UnrefLaws
pub mod UntouchedLaws
pub mod RestoreLaws
pub mod AgeLaws
pub mod CheckpointLaws
