-- The proofs of moving's laws.
pub mod Moves
pub mod MovingLaws
