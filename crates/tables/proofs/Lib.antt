-- The lines of the tables program: their law, and their parts.
pub mod LinesLaws
pub mod Joined
