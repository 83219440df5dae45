pub mod ClapCommand
pub mod ClapWalk
pub mod FormatValues
pub mod IdText
pub mod NumberText
pub mod ReadingLemmas
pub mod WordLemmas
pub mod WordShapes
