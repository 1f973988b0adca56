pub mod Choices
pub mod Results
pub mod Digits
pub mod Texts
pub mod told
