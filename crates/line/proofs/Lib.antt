pub mod InputLaws
pub mod SignedLaws
pub mod OutputLaws
pub mod Examples
pub mod TakenLaws
