mod HeldBack
mod Pinned
mod Committed
mod Pinning
mod Spaces
mod Opened
pub mod Written
mod RootNodes
mod Frozen
mod InPlace
pub mod Sendable
