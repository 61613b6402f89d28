pub mod SideChoiceLaws
pub mod HeadLaws
pub mod Imaged
pub mod BehindRuns
mod PastGate
pub mod OffRuns
pub mod Ahead
pub mod StateReads
