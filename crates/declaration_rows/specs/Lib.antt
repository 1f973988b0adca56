pub mod Declarations
pub mod Rows
pub mod told
