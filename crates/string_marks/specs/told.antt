pub mod MarksTold
pub mod InnerTold
pub mod UsedTold
