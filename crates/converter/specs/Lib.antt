pub mod Conversions
pub mod Statements
pub mod told
