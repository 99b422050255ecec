-- The content of a field.
pub mod Answers
pub mod Contents
pub mod Measures
pub mod ContentsLaws
