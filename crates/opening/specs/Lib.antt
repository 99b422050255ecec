-- The definitions that the contracts of opening cite, and its laws.
pub mod Opening
pub mod OpeningLaws
