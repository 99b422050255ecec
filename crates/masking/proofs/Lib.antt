-- The proofs of masking.
pub mod Masked
pub mod Words
