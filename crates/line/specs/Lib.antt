pub mod Input
pub mod Line
pub mod Wrote
pub mod told
