pub mod AnswerLemmas
mod RestLemmas
