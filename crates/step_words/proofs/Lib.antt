-- The proofs of step_words.
pub mod Taken
