pub mod WellFormedLaws
pub mod ErasedLaws
pub mod ErasedWalk
pub mod GivenLaws
pub mod JoinLaws
pub mod DefaultLaws
pub mod FunctionLaws
