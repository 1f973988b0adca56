pub mod Reading
pub mod Types
pub mod Members
pub mod OneForOne
pub mod Counting
pub mod told
