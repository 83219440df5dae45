pub mod CountLaws
pub mod Counts
pub mod MergeLaws
pub mod Nodes
pub mod RangeLaws
pub mod Sets
