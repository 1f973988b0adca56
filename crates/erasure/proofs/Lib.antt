pub mod Letters
pub mod TextLaws
pub mod TableLaws
pub mod ListedLaws
pub mod PartLaws
