-- Laws and lemmas of sboxes; a folder has the proof of the function it is named after.
pub mod ThroughLaws
pub mod SboxLaws
