pub mod Readers
pub mod Writers
pub mod Spellings
pub mod Messages
pub mod Commands
pub mod Answers
pub mod Events
pub mod Sizes
