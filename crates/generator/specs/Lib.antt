-- The definitions that the contracts of generator and walks cite, and their laws.
pub mod Registers
pub mod Functions
pub mod GeneratorLaws
