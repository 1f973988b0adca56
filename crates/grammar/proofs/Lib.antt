pub mod Segments
pub mod UniqueCut
