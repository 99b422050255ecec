-- Laws and lemmas of kalyna; a folder has the proof of the function it is named after.
pub mod Blocks
pub mod Walks
pub mod Calls
pub mod CallLaws
