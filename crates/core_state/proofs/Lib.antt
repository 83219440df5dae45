mod Kept
mod Answered
mod Committed
mod Opened
mod NodeEvents
pub mod Sendable
