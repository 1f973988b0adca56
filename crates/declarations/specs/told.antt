pub mod PayloadTold
pub mod BodyTold
