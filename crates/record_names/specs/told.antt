pub mod Note
pub mod Ends
pub mod Steps
pub mod ClassNames
pub mod Named
pub mod Sized
