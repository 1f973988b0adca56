pub mod ArgumentLaws
pub mod EnterLaws
pub mod PendingLaws
pub mod StackLaws
pub mod TwinLaws
pub mod WalkLaws
pub mod CycleLaws
pub mod OptionalLaws
