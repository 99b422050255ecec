-- The proofs of generator's laws.
pub mod Cells
pub mod Round
pub mod Iterate
pub mod GeneratorLaws
pub mod Owned
