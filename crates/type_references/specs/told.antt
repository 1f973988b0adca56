pub mod Pending
pub mod ParseTold
pub mod OptionalTold
