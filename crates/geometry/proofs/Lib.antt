pub mod Mirroring
pub mod Rooms
pub mod NamedSessions
pub mod HandedFaults
pub mod ReadImages
pub mod ModelCopies
pub mod CopiesThere
pub mod WrittenCopies
