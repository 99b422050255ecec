-- Lemmas of recovering; a folder has the proof of the function it is named after.
pub mod KeyWords
