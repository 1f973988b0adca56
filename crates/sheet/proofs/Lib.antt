pub mod RowLaws
pub mod ReadBack
pub mod RefsInOrder
pub mod Lengths
pub mod WriteLaws
pub mod PutLaws
