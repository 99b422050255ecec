-- The laws of the cipher program's input.
pub mod Header
pub mod RefusalLines
pub mod FramingLaws
