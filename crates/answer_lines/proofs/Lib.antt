pub mod KeptLaws
pub mod AnswerLaws
