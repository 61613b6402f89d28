pub mod AbsentLaws
pub mod AloneLaws
pub mod Unaware
pub mod CoreLaws
pub mod PartDecisions
pub mod Effects
pub mod FreshLaws
pub mod HeardPeers
pub mod KeptLaws
pub mod KeptOutputs
pub mod KnownLaws
pub mod LawfulLaws
pub mod LineLaws
pub mod Lists
pub mod Named
pub mod Openings
pub mod OrderLaws
pub mod RefusalLaws
pub mod ShareLaws
pub mod SkipLaws
pub mod StandingLaws
pub mod ToldLaws
mod RestoredRows
mod Phases
