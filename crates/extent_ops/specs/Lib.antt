pub mod Content
pub mod Stretches
pub mod Cutting
pub mod Nearest
pub mod Above
pub mod Looking
pub mod Placing
pub mod Bounds
