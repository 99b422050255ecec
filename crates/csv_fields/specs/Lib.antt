-- Where a field ends.
pub mod Ends
pub mod Answers
pub mod FieldsLaws
