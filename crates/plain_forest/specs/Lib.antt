pub mod Names
pub mod Maps
pub mod Forest
pub mod Steps
