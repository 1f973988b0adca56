pub mod Lists
pub mod told
