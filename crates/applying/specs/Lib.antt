-- The definitions that the contracts of applying cite, and its laws.
pub mod Applying
pub mod AnyStep
pub mod ApplyingLaws
pub mod AnyStepLaws
