pub mod PropertyLaws
pub mod PairLaws
pub mod ParameterLaws
pub mod AliasLaws
pub mod CallableLaws
pub mod ClosedLaws
pub mod MemberLists
pub mod SignatureLaws
