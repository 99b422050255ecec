-- The definitions that the contracts of the cipher program's input cite, and its laws.
pub mod Framing
pub mod FramingLaws
