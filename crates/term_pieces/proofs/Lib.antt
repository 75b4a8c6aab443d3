pub mod DepthLaws
pub mod FitLaws
pub mod OpenLaws
pub mod PartLaws
pub mod PieceLaws
