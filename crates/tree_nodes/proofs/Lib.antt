pub mod Looks
pub mod Ranges
