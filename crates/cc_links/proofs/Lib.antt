pub mod AddedPeers
pub mod ChangedRows
pub mod HeardLoop
pub mod KnownSets
pub mod LowestLoop
