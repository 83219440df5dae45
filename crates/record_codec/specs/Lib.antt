pub mod Entries
pub mod Fields
pub mod LengthLaws
pub mod Reading
pub mod Sets
