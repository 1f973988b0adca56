pub mod OutcomesTold
pub mod KindTold
