pub mod AnswerLaws
pub mod ArgumentLaws
pub mod NameLaws
pub mod SingletonLaws
