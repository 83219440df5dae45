pub mod Draws
pub mod Inodes
