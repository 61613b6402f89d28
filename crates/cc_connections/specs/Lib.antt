pub mod Limits
pub mod Hellos
pub mod Frames
pub mod Held
pub mod Streams
pub mod Hosts
pub mod Clusters
