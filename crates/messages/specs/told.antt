pub mod Asked
pub mod Repeated
pub mod Reader
