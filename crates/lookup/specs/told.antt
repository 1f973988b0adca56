pub mod Lookups
pub mod Qualified
pub mod Resolved
pub mod Strings
