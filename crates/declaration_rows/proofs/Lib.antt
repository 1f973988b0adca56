pub mod WrittenLaws
pub mod RecordLaws
