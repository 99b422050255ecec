-- The lines of the tables program, and their law.
pub mod Lines
pub mod LinesLaws
