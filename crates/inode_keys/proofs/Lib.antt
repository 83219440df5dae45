pub mod Setting
pub mod Drawing
