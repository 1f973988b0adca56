pub mod Records
pub mod Names
pub mod told
