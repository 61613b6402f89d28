pub mod Links
pub mod Rows
pub mod LinkLaws
pub mod HeardLaws
pub mod KnownIds
