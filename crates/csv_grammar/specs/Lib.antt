-- The grammar of RFC 4180 text, the faults of a text, and where its fields stand.
pub mod Grammar
pub mod Table
pub mod Answers
pub mod Faults
pub mod Places
pub mod GrammarLaws
pub mod WorkedTexts
