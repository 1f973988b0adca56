pub mod UsedStrings
pub mod told
