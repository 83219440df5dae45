pub mod FreshSound
pub mod FreshTidy
