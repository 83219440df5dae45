pub mod Meant
pub mod Nearest
pub mod Shown
pub mod Subvolumes
