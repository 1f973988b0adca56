pub mod ReadTold
