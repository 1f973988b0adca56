pub mod LineTold
