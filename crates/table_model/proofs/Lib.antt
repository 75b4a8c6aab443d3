pub mod BagLaws
pub mod FrameLaws
pub mod HoldLaws
pub mod PairLaws
pub mod RowLaws
