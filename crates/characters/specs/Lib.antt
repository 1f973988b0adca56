pub mod Characters
pub mod Splits
pub mod WellFormed
pub mod told
