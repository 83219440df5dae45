pub mod Directories
pub mod Files
pub mod Gone
pub mod Moved
pub mod NameSteps
pub mod New
