pub mod Spliced
pub mod Recorded
pub mod Overlay
pub mod Flags
pub mod Images
pub mod Bytes
pub mod OneCall
