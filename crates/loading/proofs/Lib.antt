-- The proofs of loading's laws; a folder has the proof of the function it is named after.
pub mod Owned
pub mod Complement
pub mod Strings
pub mod Rows
pub mod Recovered
pub mod LoadingLaws
pub mod WorkedTable
pub mod FirstWords
