pub mod CheckLaws
pub mod FindLaws
pub mod SeenLaws
pub mod BodyLaws
pub mod BodiesLaws
pub mod SkippedLaws
pub mod RepeatedLaws
pub mod ReaderLaws
