-- Chains of calls, their laws, and the demands.
pub mod Chains
pub mod ChainLaws
pub mod Demands
