pub mod FaultLaws
pub mod PackLaws
pub mod CaseLaws
pub mod ConversionLaws
pub mod RoundTrips
pub mod Refusals
pub mod ComesBack
