pub mod Ids
pub mod Splits
pub mod Dirty
pub mod PinLaws
