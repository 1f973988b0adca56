pub mod Defaults
pub mod told
