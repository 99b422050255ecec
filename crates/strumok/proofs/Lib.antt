-- The proofs of the laws of chains and of the demands.
pub mod ChainLaws
pub mod Demands
