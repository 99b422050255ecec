-- A state as twenty words, which the contracts of the calls for C cite.
pub mod TwentyWords
