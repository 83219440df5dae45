pub mod Blocks
pub mod Opening
pub mod Records
pub mod Parts
