-- The words of the calls for C.
pub mod Words
pub mod WordsLaws
