pub mod Name
pub mod Stream
pub mod Index
pub mod RecordTold
pub mod Encoded
