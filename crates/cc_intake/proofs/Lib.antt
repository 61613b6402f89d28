pub mod Moves
pub mod Batches
pub mod RefusedEvents
pub mod Flushed
pub mod TurnerSteps
pub mod TalkSteps
