-- The numbers of the papers, and lists of tests and of lines that have them.
pub mod Numbers
pub mod Tests
pub mod Lines
pub mod Refusals
