-- Laws and lemmas of kalyna_rounds; a folder has the proof of the function it is named after.
pub mod Halves
pub mod Made
pub mod RoundsByTablesLaws
