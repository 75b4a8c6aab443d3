pub mod CompleteLaws
pub mod ScanBackLaws
pub mod ScanLaws
pub mod ShapeLaws
pub mod TypedLaws
pub mod VerdictLaws
