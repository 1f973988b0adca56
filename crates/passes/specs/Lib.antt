pub mod Answered
pub mod told
