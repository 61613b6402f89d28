pub mod AddressWords
pub mod Digits
pub mod HostNames
pub mod IdentityLines
pub mod Ipv6Words
pub mod Parts
pub mod SaidLines
pub mod Slash
