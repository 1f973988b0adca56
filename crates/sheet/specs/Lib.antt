pub mod Rows
pub mod Reading
pub mod Refs
pub mod told
