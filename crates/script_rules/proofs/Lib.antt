pub mod StandLaws
pub mod OwnLaws
