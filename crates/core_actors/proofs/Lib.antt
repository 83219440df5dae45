mod Walking
pub mod Sendable
