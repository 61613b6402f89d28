pub mod Limits
pub mod Messages
pub mod Ranges
pub mod Refusals
pub mod Shares
pub mod ShareLaws
