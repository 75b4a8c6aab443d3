mod AskingLemmas
mod BeginningLemmas
pub mod Crossing
mod FeedingLemmas
mod FieldLemmas
mod HearingLemmas
mod OwnAnswerLemmas
mod PickingLemmas
mod ReapingLemmas
mod ReceivingLemmas
mod RestingLemmas
mod RootMakingLemmas
mod Seen
mod StateLemmas
mod UndoLemmas
mod ValueRefsLemmas
mod WaitingLemmas
