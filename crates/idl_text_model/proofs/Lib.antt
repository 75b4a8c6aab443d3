pub mod Choices
pub mod CommentLaws
pub mod FileLaws
pub mod MarkLaws
pub mod NumberLaws
pub mod PieceBackLaws
pub mod PieceSaidLaws
pub mod RunLaws
pub mod TokenLaws
mod TokenRows
pub mod VerdictLaws
