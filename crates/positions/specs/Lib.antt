-- The definitions that the contracts of positions cite, and its laws.
pub mod Positions
pub mod PositionLaws
