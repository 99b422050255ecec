-- The proofs of opening's laws.
pub mod Zeros
pub mod Opened
pub mod OpeningLaws
