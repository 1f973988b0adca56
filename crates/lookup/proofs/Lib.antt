pub mod LookupLaws
pub mod QualifiedLaws
pub mod IndexLaws
pub mod ResolveLaws
pub mod StringLaws
