-- The proofs of the laws of twenty words.
pub mod TwentyWords
