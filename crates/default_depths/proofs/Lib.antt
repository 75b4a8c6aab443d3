mod DepthLaws
mod TableLaws
