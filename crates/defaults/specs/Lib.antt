pub mod Needs
pub mod Messages
pub mod Descriptor
pub mod Demand
