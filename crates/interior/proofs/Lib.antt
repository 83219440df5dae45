pub mod Halves
pub mod Putting
pub mod Turning
