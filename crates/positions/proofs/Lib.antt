-- The proofs of the laws of positions.
pub mod Walks
pub mod PositionLaws
