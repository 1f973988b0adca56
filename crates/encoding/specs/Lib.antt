pub mod Encoding
pub mod told
