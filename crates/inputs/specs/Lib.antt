pub mod Refusals
pub mod Inputs
pub mod Outcomes
pub mod told
