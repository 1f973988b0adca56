pub mod ErasureTold
