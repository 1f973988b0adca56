pub mod DefaultsTold
pub mod ErasedTold
pub mod PartsTold
