pub mod Engine
pub mod Openings
pub mod FormatSides
pub mod Resends
pub mod Commits
pub mod Lives
pub mod Checkpoints
pub mod Reopenings
