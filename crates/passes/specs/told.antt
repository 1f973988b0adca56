pub mod AreaTold
pub mod TaskTold
pub mod OpenedTold
pub mod PassTold
