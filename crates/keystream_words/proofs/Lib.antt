-- The proofs of keystream_words.
pub mod Stream
pub mod Parts
