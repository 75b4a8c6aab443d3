mod FlagLaws
mod MessageRows
pub mod CarriedLaws
pub mod FunctionKindLaws
pub mod MessageArrivalLaws
pub mod MessageReadingLaws
pub mod OpeningLaws
pub mod OpeningReadingLaws
pub mod ReplyReadingLaws
pub mod RequestReadingLaws
pub mod TargetLaws
pub mod TargetReadingLaws
pub mod SaidLaws
pub mod SentMessageLaws
pub mod StreamLaws
pub mod MessageWeightLaws
pub mod SpellableMessageLaws
pub mod MessageNamingLaws
pub mod BodyReadingLaws
pub mod StreamReadingLaws
pub mod SaidBlockLaws
mod BodyRows
pub mod AnnouncedMessageLaws
pub mod SavingLaws
pub mod SameMessageAnnouncements
pub mod BodyFittingLaws
