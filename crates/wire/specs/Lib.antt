pub mod Wire
pub mod Messages
pub mod told
