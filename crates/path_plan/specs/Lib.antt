pub mod Looking
pub mod Given
pub mod LookLaws
pub mod Made
pub mod PathLaws
