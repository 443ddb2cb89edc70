pub mod Laws
pub mod Alike
pub mod Names
pub mod Through
pub mod Touches
pub mod TranslationLaws
