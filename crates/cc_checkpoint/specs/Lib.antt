pub mod SideChoice
pub mod Heads
pub mod Faults
pub mod Images
pub mod Windows
pub mod Checkpoints
pub mod Stops
pub mod Formats
