-- A lemma of kalyna_keys; a folder has the proof of the function it is named after.
pub mod Made
