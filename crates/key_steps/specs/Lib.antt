pub mod Shown
pub mod Names
pub mod Good
pub mod Kept
pub mod Steps
