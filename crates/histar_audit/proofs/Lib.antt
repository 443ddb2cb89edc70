pub mod LabelLaws
pub mod ToldLaws
