pub mod PartLaws
pub mod SightLaws
pub mod StoringLaws
pub mod NamedLaws
pub mod CallLaws
