-- The definitions that the contracts of keystream_words and keystream cite.
pub mod Keystream
