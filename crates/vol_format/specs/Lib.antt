pub mod Fresh
pub mod Formatting
pub mod Laws
pub mod Steps
