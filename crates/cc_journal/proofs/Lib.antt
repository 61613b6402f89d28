mod Records
pub mod Rests
pub mod Puts
pub mod LinkSends
mod EventOutputs
mod Steps
mod EventReadLaws
mod BodyReads
mod RecordReads
mod Scans
mod ScanLaws
mod Multiples
