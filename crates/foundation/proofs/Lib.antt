pub mod ChoiceLaws
pub mod EveryLaws
pub mod ResultLaws
pub mod ErrorLaws
pub mod DigitLaws
pub mod OverlayLaws
pub mod PresenceLaws
