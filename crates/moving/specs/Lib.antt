-- The definitions that the contracts of moving cite, and its laws.
pub mod Moving
pub mod MovingLaws
