pub mod AreaLaws
pub mod TaskLaws
pub mod JoinedLaws
pub mod PassLaws
