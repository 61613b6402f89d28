mod KeptSides
mod FormatMoments
mod FoundSides
mod Resends
mod PutOutputs
mod CommitSteps
mod OneNode
mod NodeOrFault
mod Reopened
mod RearmedSides
mod AnewOpenings
pub mod LifeSteps
pub mod CheckpointRuns
mod Lengths
