pub mod FallsTo
pub mod Unused
pub mod Examples
