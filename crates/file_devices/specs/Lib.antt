pub mod Files
pub mod ImageLaws
pub mod Images
pub mod MemDisks
pub mod MemFiles
pub mod Opening
pub mod RecallLaws
pub mod Recalled
