-- The tests and the lines of document 01's table.
pub mod Answers
pub mod Tests
pub mod Lines
