-- The definitions that the contracts of substitution cite, and its laws.
pub mod Substitution
pub mod SubstitutionLaws
