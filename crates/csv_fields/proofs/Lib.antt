-- The proofs of field ends.
pub mod Bytes
pub mod Runs
pub mod FieldsLaws
