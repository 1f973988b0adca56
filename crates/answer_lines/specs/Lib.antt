pub mod Program
pub mod told
