pub mod Memory
pub mod Streams
pub mod StreamLaws
pub mod Adapters
