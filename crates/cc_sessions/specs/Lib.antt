pub mod Sessions
pub mod Rows
pub mod Checks
