-- The definitions that the contracts of checking cite, and its laws.
pub mod Checking
pub mod CheckingLaws
