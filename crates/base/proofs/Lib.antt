pub mod PaddedLaws
pub mod LiveLaw
pub mod SetBitFacts
