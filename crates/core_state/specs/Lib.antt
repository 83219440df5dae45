pub mod Opening
pub mod States
pub mod Devices
pub mod Events
