pub mod Places
pub mod Unions
mod Counts
