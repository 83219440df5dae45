pub mod Degraded
pub mod Standing
