pub mod LabelLemmas
pub mod CallLemmas
pub mod WordLemmas
pub mod RefusalLaw
pub mod ToldLaw
