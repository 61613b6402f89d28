pub mod StateFormat
pub mod NodeStates
pub mod TableWrites
pub mod TableReads
pub mod Restored
pub mod LawfulFields
pub mod Decoded
pub mod StateLengths
pub mod PartLaws
mod Written
pub mod SourceLaws
