pub mod ChildLaws
pub mod CoverLaws
pub mod Levels
pub mod RangeLaws
pub mod RowLaws
pub mod TreeLaws
