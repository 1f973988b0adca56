pub mod EncodingLaws
pub mod UnpackLaws
pub mod OutcomeLaws
