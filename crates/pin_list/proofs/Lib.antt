pub mod Around
pub mod Kept
pub mod Least
pub mod Levels
