pub mod EndsLaws
pub mod PartLaws
pub mod ShortLaws
pub mod UnwrapLaws
pub mod WordLaws
pub mod SizedLaws
