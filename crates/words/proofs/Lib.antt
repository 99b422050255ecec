-- Lemmas of words; a folder has the proof of the function it is named after.
pub mod Memory
