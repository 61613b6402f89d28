pub mod Addresses
pub mod Commands
pub mod Identities
pub mod PeerLines
pub mod Words
