-- The proofs of what all calls share.
pub mod Tests
pub mod Lines
