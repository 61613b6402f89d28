pub mod Rooms
pub mod NumberTables
pub mod Places
pub mod Absorbs
pub mod Orders
