-- One step of a reading.
pub mod Steps
pub mod Comes
