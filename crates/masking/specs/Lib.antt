-- The definitions that the contracts of masking cite, and their law.
pub mod Masking
