-- The laws of text; a folder has the proof of the function it is named after.
pub mod Decimal
pub mod FromFn
pub mod Padded
pub mod TextLaws
