pub mod Carried
pub mod EntryLaws
pub mod FieldLaws
pub mod LentLaws
pub mod SetLaws
pub mod StandingLaws
pub mod Whole
