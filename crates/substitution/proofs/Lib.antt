-- Laws and lemmas of substitution; a folder has the proof of the function it is named after.
pub mod ColumnLaws
pub mod SubstitutionLaws
