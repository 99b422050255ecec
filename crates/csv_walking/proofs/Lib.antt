-- The proofs of walks and parts.
pub mod Stepping
pub mod Walking
pub mod Finding
pub mod WalkingLaws
