-- The proofs of the grammar's laws.
pub mod Automaton
pub mod Letters
pub mod Division
pub mod Sound
pub mod Counted
pub mod Faults
pub mod Verdict
pub mod Even
pub mod EvenAccepted
pub mod Places
pub mod GrammarLaws
pub mod WorkedTexts
