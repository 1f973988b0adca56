pub mod Cases
pub mod Marked
