pub mod CallablesTold
pub mod PropertiesTold
pub mod PairsTold
pub mod ParametersTold
pub mod ClosedTold
pub mod SignaturesTold
pub mod EndsTold
