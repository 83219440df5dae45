pub mod Changes
pub mod FirstLaws
pub mod Holds
pub mod Own
pub mod Plain
pub mod Seen
