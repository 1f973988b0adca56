pub mod Agree
pub mod LookupLaws
pub mod AgreeLaws
pub mod Unused
pub mod Examples
