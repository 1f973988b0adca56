pub mod Runs
pub mod Fates
