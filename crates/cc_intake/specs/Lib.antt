pub mod Histories
pub mod Line
pub mod Ends
pub mod Intakes
pub mod Refusals
pub mod Turners
pub mod Turns
pub mod Talks
