pub mod Erasure
pub mod told
