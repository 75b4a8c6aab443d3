mod FirstLemmas
mod AnswerLemmas
