-- The proofs of the words.
pub mod WordsLaws
