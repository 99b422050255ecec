-- The proofs of checking's laws.
pub mod Checks
pub mod CheckingLaws
