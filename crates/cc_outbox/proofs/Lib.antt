pub mod Numbers
pub mod Edits
mod KeptPosts
