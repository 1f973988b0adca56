pub mod Payload
pub mod told
