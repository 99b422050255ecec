-- The proofs of reading.
pub mod Reading
