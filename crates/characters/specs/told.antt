pub mod Plain
pub mod CharactersTold
pub mod Sizes
pub mod Places
