-- The definitions that the contracts of kalyna cite, and its laws.
pub mod Calls
pub mod Directions
pub mod CallLaws
