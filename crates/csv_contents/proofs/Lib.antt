-- The proofs of contents.
pub mod Runs
pub mod Targets
pub mod Writing
pub mod Measuring
pub mod Answering
pub mod ContentsLaws
