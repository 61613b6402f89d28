pub mod Admissions
pub mod SendBuffers
