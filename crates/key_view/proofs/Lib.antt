pub mod Ranges
pub mod Ancestors
pub mod Fitting
pub mod Scanning
pub mod Seeing
