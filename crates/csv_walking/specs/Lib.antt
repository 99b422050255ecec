-- Walks over a text, and parts of it by row and column.
pub mod Visits
pub mod Walking
pub mod Parts
pub mod WalkingLaws
