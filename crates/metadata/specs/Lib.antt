pub mod Read
pub mod told
