-- The proofs of what is returned.
pub mod NumberLaws
pub mod Tests
pub mod Lines
